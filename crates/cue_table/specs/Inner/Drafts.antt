-- What becomes of the open nodes of a draft where a row comes.
use Rattle.std.specs.Prelude.{◌≡◌, ◌≢◌, ℕ, suc, List, [], ◌∷◌, ◌++◌, Option, Some, None}
use Rattle.std.specs.Prelude.{Bool, false, true, drop, take}
use Rattle.std.specs.Option.{option_map}
use Rattle.std.specs.declared.cmp.Ordering.{Ordering}
use Rattle.std.specs.declared.cmp.Ordering.TheVariants.{Less, Equal, Greater}
use Rattle.cue_table.specs.Form.{IsTree}
use Rattle.cue_table.specs.Slots.{Slot, at, from, slot_cmp, Place, rows_of}
use Rattle.cue_table.specs.Tree.{Tree, empty}
use Rattle.cue_table.specs.Inner.Opened.{close_trees, IsDraft}

-- the rows of a draft, unless it was refused
abbrev pub unless_refused : {R : Type 0} → Bool → List (Place × R) → Option (List (Place × R))
unless_refused false rows = Some rows
unless_refused true rows = None

-- how many of them stay open, where so many of those below do, by how the slot of the first one
-- compares with that of the place
abbrev pub staying_by : Ordering → Slot → Option ℕ → Option ℕ
staying_by Less (at step) below = Some 0
staying_by Less (from n) below = None
staying_by Equal slot below = option_map suc below
staying_by Greater slot below = None

-- how many of them stay open for a place, unless it is before the last row or in a second rest
abbrev pub staying_count : {R : Type 0} → List (Tree R × Slot) → Place → Option ℕ
staying_count [] place = Some 0
staying_count (o ∷ above) [] = None
staying_count (o ∷ above) (slot ∷ place) =
    staying_by (slot_cmp o.1 slot) o.1 (staying_count above place)

-- the nodes that are opened below one, along the slots of a place
abbrev pub opened_along : {R : Type 0} → Tree R → Place → List (Tree R × Slot)
opened_along last [] = []
opened_along last (slot ∷ place) = (last, slot) ∷ opened_along empty place

-- a node becomes this one, which is in form, or this one is in none
abbrev pub IsDraftWith : {R : Type 0} → (R → Type 0) → Tree R → Tree R → Bool → Type 0
IsDraftWith P tree new true = (new ≡ tree) × IsTree P tree
IsDraftWith P tree new false = ¬ IsTree P tree

-- the nodes behind so many are closed into the last one
abbrev pub IsClosedInto : {R : Type 0} → (R → Type 0) → List (Tree R × Slot) → Tree R → ℕ
    → List (Tree R × Slot) → Tree R → Bool → Type 0
IsClosedInto P above last n above' last' true =
    (above' ≡ take n above) × IsDraftWith P (close_trees (drop n above) last) last' true
IsClosedInto P above last n above' last' false = IsDraftWith P (close_trees (drop n above) last) last' false

-- a node in form is open behind others, or it is in none
abbrev pub LeadsOn : {R : Type 0} → (R → Type 0) → List (Tree R × Slot) → Tree R → Slot
    → List (Tree R × Slot) → Bool → Type 0
LeadsOn P front tree slot above' true = (above' ≡ front ++ (tree, slot) ∷ []) × IsTree P tree
LeadsOn P front tree slot above' false = ¬ IsTree P tree

-- the nodes become those of a draft with one more row, or no tree's rows begin so
abbrev pub IsExtendedBy : {R : Type 0} → (R → Type 0) → List (Tree R × Slot) → Tree R → Place → R
    → List (Tree R × Slot) → Tree R → Bool → Type 0
IsExtendedBy P above last place row above' last' true =
    IsDraft P above' last'
    × (rows_of (close_trees above' last') ≡ rows_of (close_trees above last) ++ (place, row) ∷ [])
IsExtendedBy {R} P above last place row above' last' false =
    (tree : Tree R) (more : List (Place × R)) → IsTree P tree
    → rows_of tree ≢ (rows_of (close_trees above last) ++ (place, row) ∷ []) ++ more
