-- The indexes of the rows of a table, one after another.
use Rattle.std.proofs.Common.{◌≡◌, ◌↔◌, ℕ, List, [], ◌∷◌, ◌++◌, append_assoc, map, Option, Some, None, refl, sym, ap, ◌∙◌}
use Rattle.std.specs.Prelude.{IfNone}
use Rattle.std.proofs.lemmas.List.{append-nil, map-append}
use Rattle.cue_lattice.specs.Path.{Step}
use Rattle.cue_row.specs.declared.parts.RowParts.{RowParts as Row}
use Rattle.cue_table.specs.Tree.{Tree, Children, row_of, rest_below, rest_at, children_of}
use Rattle.cue_codec.specs.declared.version.Version.{Version}
use Rattle.cue_codec.specs.Entry.{StateStep, at, to_rest, Entry, one_step_below, fixed_in, entries_of, entries_below, entries_onward, indexes_of}
use Rattle.cue_codec.proofs.Entries.{others_of, entries_begin, entries_begin_below, entries_more, entries_end, entries_rest, entries_no_rest}

-- the indexes of rows
abbrev pub indexes : List Entry → List ℕ
indexes = map (λ entry. entry.fixed)

-- they are the same one step further
pub indexes_behind : (step : StateStep) (entries : List Entry) → indexes (map (one_step_below step) entries) ≡ indexes entries
indexes_behind step [] = refl
indexes_behind step (entry ∷ entries) = ap (λ (t : List ℕ). entry.fixed ∷ t) (indexes_behind step entries)

-- lists that are one say the same of what stands after them
abbrev pub SameEnds : List ℕ → List ℕ → List ℕ → List ℕ → Type 0
SameEnds all front left one_step_below = (rest : List ℕ) → (all ≡ front ++ rest) ↔ (left ≡ one_step_below ++ rest)

-- the own row
pub ends_begin : (version : Version) (tree : Tree Row) (row : Row) (all left : List ℕ) → row_of tree ≡ Some row → all ≡ fixed_in version tree ∷ left
    → SameEnds all (indexes_of version tree) left (indexes (others_of version tree))
ends_begin version tree row all left e is = λ rest.
    let own = ap indexes (entries_begin version tree row e) in (
      λ h. cons_tail (fixed_in version tree) left (indexes (others_of version tree) ++ rest) (sym is ∙ h ∙ ap (λ t. t ++ rest) own),
      λ h. is ∙ ap (λ t. fixed_in version tree ∷ t) h ∙ ap (λ t. t ++ rest) (sym own),
    )
  where
    cons_tail : (n : ℕ) (a b : List ℕ) → n ∷ a ≡ n ∷ b → a ≡ b
    cons_tail n a b e = cc

pub ends_none : (version : Version) (tree : Tree Row) (row : Row) (all : List ℕ) → row_of tree ≡ Some row → ((left : List ℕ) → all ≡ fixed_in version tree ∷ left → ⊥)
    → (rest : List ℕ) → all ≡ indexes_of version tree ++ rest → ⊥
ends_none version tree row all e none = λ rest h. none (indexes (others_of version tree) ++ rest) (h ∙ ap (λ t. indexes t ++ rest) (entries_begin version tree row e))

pub ends_begin_below : (version : Version) (tree : Tree Row) (all : List ℕ) → row_of tree ≡ None → SameEnds all (indexes_of version tree) all (indexes (others_of version tree))
ends_begin_below version tree all e = λ rest.
    let own = ap (λ t. indexes t ++ rest) (entries_begin_below version tree e) in (λ h. h ∙ own, λ h. h ∙ sym own)

-- what stands after a branch
ends_behind : (step : StateStep) (branch more these : List Entry) (all front now next : List ℕ) → these ≡ map (one_step_below step) branch ++ more → SameEnds all front now (indexes these) → now ≡ indexes branch ++ next
    → SameEnds all front next (indexes more)
ends_behind step branch more these all front now next e ends is = λ rest.
    let split : indexes these ++ rest ≡ indexes branch ++ (indexes more ++ rest) =
    ap (λ t. indexes t ++ rest) e ∙ ap (λ t. t ++ rest) (map-append (λ entry. entry.fixed) (map (one_step_below step) branch) more ∙ ap (λ t. t ++ indexes more) (indexes_behind step branch)) ∙ append_assoc (indexes branch) (indexes more) rest in (
      λ h. cancel (indexes branch) next (indexes more ++ rest) (sym is ∙ (ends rest).0 h ∙ split),
      λ h. (ends rest).1 (is ∙ ap (λ t. indexes branch ++ t) h ∙ sym split),
    )
  where
    cancel : (a b c : List ℕ) → a ++ b ≡ a ++ c → b ≡ c
    cancel [] b c h = h
    cancel (x ∷ a) b c h = cancel a b c (cc)

ends_lacking : (step : StateStep) (branch more these : List Entry) (all front now : List ℕ) → these ≡ map (one_step_below step) branch ++ more → SameEnds all front now (indexes these) → ((rest : List ℕ) → now ≡ indexes branch ++ rest → ⊥)
    → (rest : List ℕ) → all ≡ front ++ rest → ⊥
ends_lacking step branch more these all front now e ends none = λ rest h.
    let split : indexes these ++ rest ≡ indexes branch ++ (indexes more ++ rest) =
    ap (λ t. indexes t ++ rest) e ∙ ap (λ t. t ++ rest) (map-append (λ entry. entry.fixed) (map (one_step_below step) branch) more ∙ ap (λ t. t ++ indexes more) (indexes_behind step branch)) ∙ append_assoc (indexes branch) (indexes more) rest in
    none (indexes more ++ rest) ((ends rest).0 h ∙ split)

pub ends_more :
    (version : Version) (step : Step) (tree : Tree Row) (rest left : Children Row) (more : List Entry) (all front now next : List ℕ) → children_of rest ≡ (step, tree) ∷ children_of left
    → SameEnds all front now (indexes (entries_below version rest ++ more)) → now ≡ indexes_of version tree ++ next → SameEnds all front next (indexes (entries_below version left ++ more))
ends_more version step tree rest left more all front now next e ends is =
    ends_behind (at step) (entries_of version tree) (entries_below version left ++ more) (entries_below version rest ++ more) all front now next (entries_more version step tree rest left more e) ends is

pub ends_not_more :
    (version : Version) (step : Step) (tree : Tree Row) (rest left : Children Row) (more : List Entry) (all front now : List ℕ) → children_of rest ≡ (step, tree) ∷ children_of left
    → SameEnds all front now (indexes (entries_below version rest ++ more)) → ((r : List ℕ) → now ≡ indexes_of version tree ++ r → ⊥) → (r : List ℕ) → all ≡ front ++ r → ⊥
ends_not_more version step tree rest left more all front now e ends none =
    ends_lacking (at step) (entries_of version tree) (entries_below version left ++ more) (entries_below version rest ++ more) all front now (entries_more version step tree rest left more e) ends none

rest_is : (version : Version) (tree branch : Tree Row) (left : Children Row) → children_of left ≡ [] → rest_at (rest_below tree) ≡ Some branch → entries_below version left ++ entries_onward version (rest_below tree) ≡ map (one_step_below to_rest) (entries_of version branch) ++ []
rest_is version tree branch left e r = entries_end version left (entries_onward version (rest_below tree)) e ∙ entries_rest version tree branch r ∙ sym (append-nil (map (one_step_below to_rest) (entries_of version branch)))

pub ends_rest :
    (version : Version) (tree branch : Tree Row) (left : Children Row) (all front now next : List ℕ) → children_of left ≡ [] → rest_at (rest_below tree) ≡ Some branch
    → SameEnds all front now (indexes (entries_below version left ++ entries_onward version (rest_below tree))) → now ≡ indexes_of version branch ++ next → all ≡ front ++ next
ends_rest version tree branch left all front now next e r ends is =
    (ends_behind to_rest (entries_of version branch) [] (entries_below version left ++ entries_onward version (rest_below tree)) all front now next (rest_is version tree branch left e r) ends is next).1 refl

pub ends_not_rest :
    (version : Version) (tree branch : Tree Row) (left : Children Row) (all front now : List ℕ) → children_of left ≡ [] → rest_at (rest_below tree) ≡ Some branch
    → SameEnds all front now (indexes (entries_below version left ++ entries_onward version (rest_below tree))) → ((r : List ℕ) → now ≡ indexes_of version branch ++ r → ⊥) → (r : List ℕ) → all ≡ front ++ r → ⊥
ends_not_rest version tree branch left all front now e r ends none =
    ends_lacking to_rest (entries_of version branch) [] (entries_below version left ++ entries_onward version (rest_below tree)) all front now (rest_is version tree branch left e r) ends none

pub ends_end :
    (version : Version) (tree : Tree Row) (left : Children Row) (all front now : List ℕ) → children_of left ≡ [] → rest_at (rest_below tree) ≡ None
    → SameEnds all front now (indexes (entries_below version left ++ entries_onward version (rest_below tree))) → all ≡ front ++ now
ends_end version tree left all front now e r ends =
    let none = entries_end version left (entries_onward version (rest_below tree)) e ∙ entries_no_rest version tree r in
    (ends now).1 (sym (ap (λ t. indexes t ++ now) none))

-- where there is none, something fails
pub none_then : {X : Type 0} (found : Option X) {P Q : Type 0} → (P → Q) → IfNone found P → IfNone found Q
none_then None f h = f h
none_then (Some x) f h = h
