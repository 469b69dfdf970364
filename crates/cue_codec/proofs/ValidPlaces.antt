-- The places of the rows of a valid table are those that its entries tell, one after another.
use Rattle.std.proofs.Common.{◌≡◌, ℕ, zero, List, [], ◌∷◌, ◌++◌, append_assoc, length, map, Some, None, refl, sym, ap, subst, ◌∙◌}
use Rattle.std.specs.List.{AllByRecursion}
use Rattle.cue_row.specs.declared.parts.RowParts.{RowParts as Row}
use Rattle.cue_table.specs.Slots as slots
use Rattle.cue_table.specs.Slots.{rows_of, rows_below, rows_onward}
use Rattle.cue_table.specs.Tree.{Tree, node, Children, none, child, Rest, no_rest, onward}
use Rattle.cue_table.specs.Inner.ValidWalk.{IsSound, AreSound, IsRestSound}
use Rattle.cue_codec.specs.declared.version.Version.{Version}
use Rattle.cue_codec.specs.declared.version.Version.TheVariants as versions
use Rattle.cue_codec.specs.Entry.{StateStep, at, to_rest, Entry, one_step_below, fixed_in, entries_of, entries_below, entries_onward, CanHoldStep, CanHoldTable}
use Rattle.cue_codec.specs.Known.{slot_with, place_with, known_with, known_after, rows_with}
use Rattle.cue_codec.proofs.KnownPlaces.{rows_split}
use Rattle.cue_codec.proofs.EachItem.{all_front, all_back, all_mapped, all_weaker}

-- a version tells each step of a row
abbrev pub IsToldRow : Version → Entry → Type 0
IsToldRow version entry = AllByRecursion (CanHoldStep version) entry.path

-- ---- rows behind a step

pub rows_behind : (n : ℕ) (known : List ℕ) (step : StateStep) (entries : List Entry) → rows_with (n ∷ known) (map (one_step_below step) entries) ≡ map (slots.row_behind (slot_with n step)) (rows_with known entries)
rows_behind n known step [] = refl
rows_behind n known step (entry ∷ entries) =
    ap (λ (rows : List (slots.Place × Row)). (slot_with n step ∷ place_with known entry.path, entry.row) ∷ rows) (rows_behind n (known_with known (length entry.path) entry.fixed) step entries)

pub after_behind : (n : ℕ) (known : List ℕ) (step : StateStep) (entries : List Entry) → known_after (n ∷ known) (map (one_step_below step) entries) ≡ n ∷ known_after known entries
after_behind n known step [] = refl
after_behind n known step (entry ∷ entries) = after_behind n (known_with known (length entry.path) entry.fixed) step entries

-- the rest begins where its place says
abbrev pub Starts : ℕ → Rest Row → Type 0
Starts fixed no_rest = Unit {0}
Starts fixed (onward n tree) = fixed ≡ n

-- in the first version no rest with a row is told
untold : (tree : Tree Row) → IsSound tree → AllByRecursion (IsToldRow versions.First) (map (one_step_below to_rest) (entries_of versions.First tree)) → ⊥
untold (node None children rest) h t = h
untold (node (Some row) children rest) h t = t.0.0

starts : (version : Version) (row : Row) (children : Children Row) (rest : Rest Row) → IsRestSound row rest → AllByRecursion (IsToldRow version) (entries_onward version rest) → Starts (fixed_in version (node (Some row) children rest)) rest
starts version row children no_rest h t = tt
starts versions.First row children (onward n tree) h t = absurd (untold tree h.1 t)
starts versions.Second row children (onward n tree) h t = refl

-- what is known once the row at the root was read
first_known : (known : List ℕ) (fixed : ℕ) → (more : List ℕ) × (known_with known zero fixed ≡ fixed ∷ more)
first_known [] fixed = ([], refl)
first_known (n ∷ known) fixed = (known, refl)

mutual
  -- the rows of a table that is right stand at the places that are told, whatever was known before
  pub rows_are : (version : Version) (tree : Tree Row) → IsSound tree → CanHoldTable version tree → (known : List ℕ) → rows_with known (entries_of version tree) ≡ rows_of tree
  rows_are version (node None children rest) h t known = absurd h
  rows_are version (node (Some row) children rest) h t known =
      let fixed = fixed_in version (node (Some row) children rest) in
      let next = first_known known fixed in
      let others : List Entry = entries_below version children ++ entries_onward version rest in
      let begins = starts version row children rest h.3 (all_back (IsToldRow version) (entries_below version children) (entries_onward version rest) t.1) in
      let onward = rows_are_onward version fixed row rest h.3 begins (all_back (IsToldRow version) (entries_below version children) (entries_onward version rest) t.1) in
      let rows : rows_with (fixed ∷ next.0) others ≡ rows_below children ++ rows_onward rest = rows_are_below version fixed row children rest h.2 onward t.1 next.0 in
      ap (λ (rows : List (slots.Place × Row)). ([], row) ∷ rows) (ap (λ k. rows_with k others) next.1 ∙ rows)

  rows_are_onward :
      (version : Version) (fixed : ℕ) (parent : Row) (rest : Rest Row) → IsRestSound parent rest → Starts fixed rest → AllByRecursion (IsToldRow version) (entries_onward version rest)
      → (known : List ℕ) → rows_with (fixed ∷ known) (entries_onward version rest) ≡ rows_onward rest
  rows_are_onward version fixed parent no_rest r b t known = refl
  rows_are_onward version fixed parent (onward n tree) r b t known =
      let told = all_weaker (λ entry. IsToldRow version (one_step_below to_rest entry)) (IsToldRow version) (entries_of version tree) (λ entry p. p.1) (all_mapped (one_step_below to_rest) (IsToldRow version) (entries_of version tree) t) in
      rows_behind fixed known to_rest (entries_of version tree)
      ∙ ap (λ rows. map (slots.row_behind (slots.from fixed)) rows) (rows_are version tree r.1 told known)
      ∙ ap (λ k. map (slots.row_behind (slots.from k)) (rows_of tree)) b

  rows_are_below :
      (version : Version) (fixed : ℕ) (parent : Row) (children : Children Row) (rest : Rest Row) → AreSound parent children
      → ((known : List ℕ) → rows_with (fixed ∷ known) (entries_onward version rest) ≡ rows_onward rest)
      → AllByRecursion (IsToldRow version) (entries_below version children ++ entries_onward version rest)
      → (known : List ℕ) → rows_with (fixed ∷ known) (entries_below version children ++ entries_onward version rest) ≡ rows_below children ++ rows_onward rest
  rows_are_below version fixed parent none rest h r t known = r known
  rows_are_below version fixed parent (child step tree children) rest h r t known =
      let these = map (one_step_below (at step)) (entries_of version tree) in
      let others : List Entry = entries_below version children ++ entries_onward version rest in
      let all = append_assoc these (entries_below version children) (entries_onward version rest) in
      let split = subst (AllByRecursion (IsToldRow version)) all t in
      let told = all_weaker (λ entry. IsToldRow version (one_step_below (at step) entry)) (IsToldRow version) (entries_of version tree) (λ entry p. p.1) (all_mapped (one_step_below (at step)) (IsToldRow version) (entries_of version tree) (all_front (IsToldRow version) these others split)) in
      let left = rows_are_below version fixed parent children rest h.2 r (all_back (IsToldRow version) these others split) (known_after known (entries_of version tree)) in
      ap (rows_with (fixed ∷ known)) all
      ∙ rows_split (fixed ∷ known) these others
      ∙ ap (λ rows. rows ++ rows_with (known_after (fixed ∷ known) these) others) (rows_behind fixed known (at step) (entries_of version tree) ∙ ap (λ rows. map (slots.row_behind (slots.at step)) rows) (rows_are version tree h.1 told known))
      ∙ ap (λ k. map (slots.row_behind (slots.at step)) (rows_of tree) ++ rows_with k others) (after_behind fixed known (at step) (entries_of version tree))
      ∙ ap (λ rows. map (slots.row_behind (slots.at step)) (rows_of tree) ++ rows) left
      ∙ sym (append_assoc (map (slots.row_behind (slots.at step)) (rows_of tree)) (rows_below children) (rows_onward rest))
