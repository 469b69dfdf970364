-- Rows read one after another, by their bytes.
use Rattle.std.proofs.Common.{◌≡◌, ℕ, ◌-◌, ◌<◌, ◌≤◌, List, [], ◌∷◌, ◌++◌, append_assoc, length, map, take, drop, Option, Some, ⊎_elim, refl, sym, ap, subst, ◌∙◌, arith}
use Rattle.std.specs.List.{flat_map}
use Rattle.std.proofs.lemmas.List.{append-nil, append_cancel_right, length-append, length-take, nil_from_length, take-append-drop}
use Rattle.cue_lattice.specs.declared.refusal.Kind.{Kind}
use Rattle.cue_lattice.specs.declared.refusal.Kind.TheVariants as kinds
use Rattle.cue_row.specs.declared.parts.RowParts.{RowParts as Row}
use Rattle.cue_row.specs.Row.{RefusesAsked, IsRow}
use Rattle.cue_table.specs.Slots.{Place}
use Rattle.cue_table.specs.RowList.{BeginsNoTable}
use Rattle.cue_codec.specs.declared.version.Version.{Version}
use Rattle.cue_codec.specs.Decoding.{NoRows}
use Rattle.cue_codec.specs.Entry.{Entry, entry_at}
use Rattle.cue_codec.specs.Known.{known_with, rows_with, IsIndexKnown, no_indexes, AreRowsRead}
use Rattle.cue_codec.specs.Inner.Known.{AreDrafted}
use Rattle.cue_codec.specs.Reading.{ReadsItem, ReadsNoItem, IsReadRefused}
use Rattle.cue_codec.specs.RowBytes.{row_bytes, IsStateRow}
use Rattle.cue_codec.specs.Inner.Drafting.{RowsRead, entries_from, rows_bytes, rows_in, IsDrafting, IsNext, NoneNext, IsNoRowsPrefix}
use Rattle.cue_codec.specs.Inner.Pieces.{HasRows}
use Rattle.cue_codec.proofs.Codes.{begins_more, same_fronts}
use Rattle.cue_codec.proofs.KnownPlaces.{told_with}
use Rattle.cue_codec.proofs.ReadStates.{known_next, rows_missing, rows_one_more, rows_unordered, rows_trailing}

-- rows at their places, with their indexes, are those of the entries
entries_again : (known : List ℕ) (entries : List Entry) → entries_from (rows_with known entries) (map (λ entry. entry.fixed) entries) ≡ entries
entries_again known [] = refl
entries_again known (entry ∷ entries) = λ i.
    record { path = told_with known entry.path i; fixed = entry.fixed; row = entry.row }
    ∷ entries_again (known_with known (length entry.path) entry.fixed) entries i

module _ {version : Version} {bytes left : List ℕ} {count missing : ℕ} {rows : List (Place × Row)} {indexes known : List ℕ} where
  read_entries : (read : AreRowsRead version bytes left count missing rows indexes known) → entries_from rows indexes ≡ read.entries
  read_entries read = (λ i. entries_from (read.places i) (read.told i)) ∙ entries_again no_indexes read.entries

  -- the bytes of the rows, and those that are left
  pub read_parts : AreRowsRead version bytes left count missing rows indexes known → bytes ≡ rows_bytes version rows indexes ++ left
  read_parts read = read.parts ∙ ap (λ entries. flat_map (row_bytes version) entries ++ left) (sym (read_entries read))

  -- the rows that were read, with other bytes behind them
  pub read_with : (more : List ℕ) → AreRowsRead version bytes left count missing rows indexes known → AreRowsRead version (rows_bytes version rows indexes ++ more) more count missing rows indexes known
  read_with more read = record {
    entries = read.entries;
    each = read.each;
    parts = ap (λ entries. flat_map (row_bytes version) entries ++ more) (read_entries read);
    counted = read.counted;
    places = read.places;
    told = read.told;
    after = read.after;
  }

-- and with none
pub read_alone : (version : Version) (bytes left : List ℕ) (count missing : ℕ) (rows : List (Place × Row)) (indexes known : List ℕ) → AreRowsRead version bytes left count missing rows indexes known → AreRowsRead version (rows_bytes version rows indexes) [] count missing rows indexes known
read_alone version bytes left count missing rows indexes known read =
    subst (λ b. AreRowsRead version b [] count missing rows indexes known) (append-nil (rows_bytes version rows indexes)) (read_with [] read)

module _ (version : Version) (count left : ℕ) (rows : List (Place × Row)) (indexes known : List ℕ) (read : AreRowsRead version (rows_bytes version rows indexes) [] count left rows indexes known) where
  -- the row that was read is the next
  pub next_row : (bytes rest : List ℕ) (new : List (Place × Row)) (place : Place) (fixed : ℕ) (row : Row) → 0 < left → ReadsItem (IsStateRow version) (row_bytes version) (entry_at place fixed row) bytes rest → IsIndexKnown known place → new ≡ rows ++ (place, row) ∷ []
      → AreRowsRead version (rows_bytes version new (indexes ++ fixed ∷ [])) [] count (left - 1) new (indexes ++ fixed ∷ []) (known_with known (length place) fixed)
      × (rows_bytes version new (indexes ++ fixed ∷ []) ≡ rows_bytes version rows indexes ++ row_bytes version (entry_at place fixed row))
  next_row bytes rest new place fixed row some begins is added =
      let old : List ℕ = rows_bytes version rows indexes in
      let here : List ℕ = row_bytes version (entry_at place fixed row) in
      let more = rows_one_more version (old ++ bytes) bytes rest count left rows new indexes known place fixed row (read_with bytes read) some begins is added in (
        read_alone version (old ++ bytes) rest count (left - 1) new (indexes ++ fixed ∷ []) (known_with known (length place) fixed) more,
        append_cancel_right (rows_bytes version new (indexes ++ fixed ∷ [])) (old ++ here) rest (sym (read_parts more) ∙ ap (λ t. old ++ t) begins.parts ∙ sym (append_assoc old here rest)),
      )

  pub next_ok : (bytes rest : List ℕ) (new : List (Place × Row)) (place : Place) (fixed : ℕ) (row : Row) (items : List ℕ) → items ≡ indexes ++ fixed ∷ [] → 0 < left → ReadsItem (IsStateRow version) (row_bytes version) (entry_at place fixed row) bytes rest → IsIndexKnown known place
      → new ≡ rows ++ (place, row) ∷ []
      → IsNext (record { version = version; count = count; left = left; bytes = rows_bytes version rows indexes }) bytes (record { version = version; count = count; left = left - 1; bytes = rows_bytes version new items }) rest
  next_ok bytes rest new place fixed row items listed some begins is added = record {
    version = refl;
    count = refl;
    left = omega (arith, some);
    entry = entry_at place fixed row;
    begins = begins;
    longer = ap (rows_bytes version new) listed ∙ (next_row bytes rest new place fixed row some begins is added).1;
  }

  pub next_drafting : (bytes rest : List ℕ) (new : Option (List (Place × Row))) (place : Place) (fixed : ℕ) (row : Row) (items after : List ℕ) → items ≡ indexes ++ fixed ∷ [] → after ≡ known_with known (length place) fixed → length after ≡ 65 → 0 < left
      → ReadsItem (IsStateRow version) (row_bytes version) (entry_at place fixed row) bytes rest → IsIndexKnown known place → new ≡ Some (rows ++ (place, row) ∷ []) → IsDrafting version count (left - 1) new items after place
  next_drafting bytes rest new place fixed row items after listed same deep some begins is added =
      let more = ap rows_in added in record {
        goes_on = added ∙ ap Some (sym more);
        read = subst (λ t. AreRowsRead version (rows_bytes version (rows_in new) t) [] count (left - 1) (rows_in new) t after) (sym listed)
            (subst (AreRowsRead version (rows_bytes version (rows_in new) (indexes ++ fixed ∷ [])) [] count (left - 1) (rows_in new) (indexes ++ fixed ∷ [])) (sym same) (next_row bytes rest (rows_in new) place fixed row some begins is more).0);
        steps = begins.value.path;
        placed = subst (λ k. IsIndexKnown k place) (sym same) (known_next known place fixed is);
        deep = deep;
      }

  -- where a row is missing and none stands in front, or it doesn't stand behind the others
  pub next_missing : 0 < left → (bytes : List ℕ) → ReadsNoItem (IsStateRow version) (row_bytes version) bytes → NoneNext (record { version = version; count = count; left = left; bytes = rows_bytes version rows indexes }) bytes
  next_missing some bytes none = λ more stays.
      rows_missing version (rows_bytes version rows indexes ++ (bytes ++ more)) (bytes ++ more) count left rows indexes known (read_with (bytes ++ more) read) some (stays none)

  -- nor where none stands in front whatever follows
  pub next_never : 0 < left → (bytes : List ℕ) → ((more : List ℕ) → ReadsNoItem (IsStateRow version) (row_bytes version) (bytes ++ more)) → IsNoRowsPrefix version count (rows_bytes version rows indexes ++ bytes)
  next_never some bytes none = λ more.
      subst (NoRows version count) (sym (append_assoc (rows_bytes version rows indexes) bytes more))
      (rows_missing version (rows_bytes version rows indexes ++ (bytes ++ more)) (bytes ++ more) count left rows indexes known (read_with (bytes ++ more) read) some (none more))

  pub next_unordered : (bytes rest : List ℕ) (place : Place) (fixed : ℕ) (row : Row) → 0 < left → ReadsItem (IsStateRow version) (row_bytes version) (entry_at place fixed row) bytes rest → IsIndexKnown known place → BeginsNoTable RefusesAsked IsRow (rows ++ (place, row) ∷ [])
      → IsNoRowsPrefix version count (rows_bytes version rows indexes ++ bytes)
  next_unordered bytes rest place fixed row some begins is none = λ more.
      subst (NoRows version count) (sym (append_assoc (rows_bytes version rows indexes) bytes more))
      (rows_unordered version (rows_bytes version rows indexes ++ (bytes ++ more)) (bytes ++ more) (rest ++ more) count left rows indexes known place fixed row (read_with (bytes ++ more) read) some (begins_more (IsStateRow version) (row_bytes version) (entry_at place fixed row) bytes rest more begins) is none)

  -- where none is missing and bytes follow
  pub next_trailing : left ≡ 0 → (more : List ℕ) → (more ≡ [] → ⊥) → NoRows version count (rows_bytes version rows indexes ++ more)
  next_trailing none more some =
      let here = subst (λ n. AreRowsRead version (rows_bytes version rows indexes ++ more) more count n rows indexes known) none (read_with more read) in
      rows_trailing version (rows_bytes version rows indexes ++ more) more count rows indexes known here some

-- where none is missing
pub all_drafted : (version : Version) (count left : ℕ) (rows : List (Place × Row)) (indexes known : List ℕ) → left ≡ 0 → AreRowsRead version (rows_bytes version rows indexes) [] count left rows indexes known → AreDrafted version (rows_bytes version rows indexes) count rows indexes
all_drafted version count left rows indexes known none read = (known, subst (λ n. AreRowsRead version (rows_bytes version rows indexes) [] count n rows indexes known) none read)

-- ---- rows that stand for others

-- what holds of the rows so far and the bytes behind them holds of all
pub same_rows : (P : Version → ℕ → List ℕ → Type 0) (old new : RowsRead) (bytes rest : List ℕ) → new.version ≡ old.version → new.count ≡ old.count → new.bytes ++ rest ≡ old.bytes ++ bytes
    → P new.version new.count (new.bytes ++ rest) → P old.version old.count (old.bytes ++ bytes)
same_rows P old new bytes rest v c e h =
    subst (P old.version old.count) e (subst (λ n. P old.version n (new.bytes ++ rest)) c (subst (λ w. P w new.count (new.bytes ++ rest)) v h))

-- no rows go on so
pub none_on : (new : RowsRead) (rest : List ℕ) → NoneNext new rest → NoRows new.version new.count (new.bytes ++ rest)
none_on new rest none =
    let same : rest ++ [] ≡ rest = append-nil rest in
    subst (λ t. NoRows new.version new.count (new.bytes ++ t)) same (none [] (subst (ReadsNoItem (IsStateRow new.version) (row_bytes new.version)) (sym same)))

pub none_begun : (version : Version) (count : ℕ) (bytes : List ℕ) → IsNoRowsPrefix version count bytes → NoRows version count bytes
none_begun version count bytes none = subst (NoRows version count) (append-nil bytes) (none [])

-- what was read and what is left are together the same
pub next_bytes : (old new : RowsRead) (bytes rest : List ℕ) → IsNext old bytes new rest → new.bytes ++ rest ≡ old.bytes ++ bytes
next_bytes old new bytes rest next =
    ap (λ t. t ++ rest) next.longer ∙ append_assoc old.bytes (row_bytes old.version next.entry) rest ∙ ap (λ t. old.bytes ++ t) (sym next.begins.parts)

-- the rows that were added have the bytes in front of those that are left
pub rows_added : (old new : RowsRead) (bytes rest : List ℕ) (len : ℕ) → new.version ≡ old.version → new.count ≡ old.count → new.bytes ++ rest ≡ old.bytes ++ bytes → length rest ≤ length bytes → len ≡ length bytes - length rest → HasRows old bytes new (Some len)
rows_added old new bytes rest len v c e le long =
    let front : List ℕ = take len bytes in
    let back : List ℕ = drop len bytes in
    let split : new.bytes ++ rest ≡ (old.bytes ++ front) ++ back = e ∙ ap (λ t. old.bytes ++ t) (sym (take-append-drop len bytes)) ∙ sym (append_assoc old.bytes front back) in
    let same_length : length new.bytes ≡ length (old.bytes ++ front) =
    omega (arith, le, long, ap length e, length-append new.bytes rest, length-append old.bytes bytes, length-append old.bytes front, length-take len bytes) in (
      omega (arith, long),
      record { version = v; count = c; bytes = (same_fronts new.bytes (old.bytes ++ front) rest back same_length split).0 },
    )

-- no rows are these where none is missing and bytes are left
pub rows_full : (old new : RowsRead) (bytes rest : List ℕ) → new.version ≡ old.version → new.count ≡ old.count → new.bytes ++ rest ≡ old.bytes ++ bytes → (rest ≡ [] → ⊥) → ((more : List ℕ) → (more ≡ [] → ⊥) → NoRows new.version new.count (new.bytes ++ more))
    → IsNoRowsPrefix old.version old.count (old.bytes ++ bytes)
rows_full old new bytes rest v c e some trailing =
    same_rows IsNoRowsPrefix old new bytes rest v c e
    (λ more. subst (NoRows new.version new.count) (sym (append_assoc new.bytes rest more)) (trailing (rest ++ more) (λ none. some (nil_from_length rest (omega (arith, ap length none, length-append rest more))))))
