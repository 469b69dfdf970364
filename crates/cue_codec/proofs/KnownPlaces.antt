-- The places of rows that are read one after another.
use Rattle.std.proofs.Common.{◌≡◌, ℕ, zero, suc, ◌<◌, List, [], ◌∷◌, ◌++◌, length, map, take, set, get_or, refl, ap, arith}
use Rattle.cue_row.specs.declared.parts.RowParts.{RowParts as Row}
use Rattle.cue_table.specs.Slots as slots
use Rattle.cue_table.specs.declared.slot.Slot as program
use Rattle.cue_table.specs.SlotsOfCode.{slot_of}
use Rattle.cue_codec.specs.Entry.{StateStep, at, to_rest, StatePath, Entry, step_kind, path_of_place, entry_of_row, without_index}
use Rattle.cue_codec.specs.Known.{slot_with, place_with, known_with, known_after, rows_with, IsIndexKnown}
use Rattle.cue_codec.proofs.StatePaths.{step_in, steps_in}

-- the place of a path is told as the path
pub told_slot : (n : ℕ) (step : StateStep) → step_kind (slot_with n step) ≡ step
told_slot n (at step) = refl
told_slot n to_rest = refl

pub told_with : (known : List ℕ) (path : StatePath) → path_of_place (place_with known path) ≡ path
told_with known [] = refl
told_with [] (step ∷ path) = λ i. told_slot 0 step i ∷ told_with [] path i
told_with (n ∷ known) (step ∷ path) = λ i. told_slot n step i ∷ told_with known path i

-- one step further
pub place_more : (known : List ℕ) (path : StatePath) (step : StateStep) → place_with known (path ++ step ∷ []) ≡ place_with known path ++ slot_with (get_or known (length path) 0) step ∷ []
place_more [] [] step = refl
place_more (n ∷ known) [] step = refl
place_more [] (first ∷ path) step = ap (λ (p : slots.Place). slot_with 0 first ∷ p) (place_more [] path step)
place_more (n ∷ known) (first ∷ path) step = ap (λ (p : slots.Place). slot_with n first ∷ p) (place_more known path step)

-- what is known after a row does not change its place
pub place_kept : (known : List ℕ) (path : StatePath) (fixed : ℕ) → place_with (known_with known (length path) fixed) path ≡ place_with known path
place_kept known [] fixed = refl
place_kept [] (step ∷ path) fixed = ap (λ (p : slots.Place). slot_with 0 step ∷ p) (place_kept [] path fixed)
place_kept (n ∷ known) (step ∷ path) fixed = ap (λ (p : slots.Place). slot_with n step ∷ p) (place_kept known path fixed)

-- what is known after a row, written into its place
pub known_set : (known : List ℕ) (depth fixed : ℕ) → depth < length known → known_with known depth fixed ≡ set known depth fixed
known_set [] depth fixed h = absurd (omega (arith, h))
known_set (n ∷ known) zero fixed h = refl
known_set (n ∷ known) (suc depth) fixed h = ap (λ (k : List ℕ). n ∷ k) (known_set known depth fixed (omega (arith, h)))

-- ---- the slots of the program

-- the first slots of a place with known numbers
pub known_front : (known : List ℕ) (items : List program.Slot) (n : ℕ) → IsIndexKnown known (map slot_of items) → IsIndexKnown known (map slot_of (take n items))
known_front known items zero h = refl
known_front known [] (suc n) h = refl
known_front [] (x ∷ items) (suc n) h =
    let first : slot_of x ≡ slot_with 0 (step_in x) = cc in
    let others : map slot_of items ≡ place_with [] (steps_in items) = cc in
    λ i. first i ∷ known_front [] items n others i
known_front (k ∷ known) (x ∷ items) (suc n) h =
    let first : slot_of x ≡ slot_with k (step_in x) = cc in
    let others : map slot_of items ≡ place_with known (steps_in items) = cc in
    λ i. first i ∷ known_front known items n others i

-- one more slot
pub known_more : (known : List ℕ) (items : List program.Slot) (x : program.Slot) → IsIndexKnown known (map slot_of items) → slot_of x ≡ slot_with (get_or known (length items) 0) (step_in x) → IsIndexKnown known (map slot_of (items ++ x ∷ []))
known_more known [] x h e = one known e
  where
    one : (k : List ℕ) → slot_of x ≡ slot_with (get_or k 0 0) (step_in x) → IsIndexKnown k (slot_of x ∷ [])
    one [] e = λ i. e i ∷ []
    one (n ∷ k) e = λ i. e i ∷ []
known_more [] (y ∷ items) x h e =
    let first : slot_of y ≡ slot_with 0 (step_in y) = cc in
    let others : map slot_of items ≡ place_with [] (steps_in items) = cc in
    λ i. first i ∷ known_more [] items x others e i
known_more (n ∷ known) (y ∷ items) x h e =
    let first : slot_of y ≡ slot_with n (step_in y) = cc in
    let others : map slot_of items ≡ place_with known (steps_in items) = cc in
    λ i. first i ∷ known_more known items x others e i

-- ---- rows, one after another

-- one more row
pub rows_more : (known : List ℕ) (entries : List Entry) (entry : Entry) → rows_with known (entries ++ entry ∷ []) ≡ rows_with known entries ++ (place_with (known_after known entries) entry.path, entry.row) ∷ []
rows_more known [] entry = refl
rows_more known (first ∷ entries) entry =
    ap (λ (rows : List (slots.Place × Row)). (place_with known first.path, first.row) ∷ rows) (rows_more (known_with known (length first.path) first.fixed) entries entry)

pub after_more : (known : List ℕ) (entries : List Entry) (entry : Entry) → known_after known (entries ++ entry ∷ []) ≡ known_with (known_after known entries) (length entry.path) entry.fixed
after_more known [] entry = refl
after_more known (first ∷ entries) entry = after_more (known_with known (length first.path) first.fixed) entries entry

-- rows, and those after them
pub rows_split : (known : List ℕ) (entries others : List Entry) → rows_with known (entries ++ others) ≡ rows_with known entries ++ rows_with (known_after known entries) others
rows_split known [] others = refl
rows_split known (first ∷ entries) others =
    ap (λ (rows : List (slots.Place × Row)). (place_with known first.path, first.row) ∷ rows) (rows_split (known_with known (length first.path) first.fixed) entries others)

-- the places of rows tell their paths
pub entries_placed : (known : List ℕ) (entries : List Entry) → map entry_of_row (rows_with known entries) ≡ map without_index entries
entries_placed known [] = refl
entries_placed known (entry ∷ entries) =
    λ i. (told_with known entry.path i, entry.row) ∷ entries_placed (known_with known (length entry.path) entry.fixed) entries i
