-- The rows of a table as a list.
use Rattle.std.specs.Prelude.{◌≡◌, ◌↔◌, [], ◌∷◌, Option, Some, None, nat_eq, if◌then◌else◌, ℕ}
use Rattle.std.specs.Option.{option_and_then}
use Rattle.std.specs.declared.cmp.Ordering.{Ordering}
use Rattle.std.specs.List.Sorted.{IsStrictlySortedBy}
use Rattle.cue_lattice.specs.OneOf.{OneOf}
use Rattle.cue_table.specs.Slots.{Slot, at, from, Place, place_cmp, rows_of}
use Rattle.cue_table.specs.Tree.{Tree, Rest, no_rest, onward, row_of, below, rest_below, find}

-- rows in the order of their places
abbrev pub by_place : {R : Type 0} → Place × R → Place × R → Ordering
by_place a b = place_cmp a.0 b.0

-- Each row of the list is before those after it, so no place comes twice.
abbrev pub InPlaceOrder : {R : Type 0} → Tree R → Type 0
InPlaceOrder tree = IsStrictlySortedBy by_place (rows_of tree)

-- the branch that is kept at a slot
abbrev pub kept_rest : {R : Type 0} → ℕ → Rest R → Option (Tree R)
kept_rest n no_rest = None
kept_rest n (onward m tree) = if nat_eq n m then Some tree else None

abbrev pub kept_at_slot : {R : Type 0} → Tree R → Slot → Option (Tree R)
kept_at_slot tree (at step) = find step (below tree)
kept_at_slot tree (from n) = kept_rest n (rest_below tree)

-- the row that is kept at a place
abbrev pub kept_branch : {R : Type 0} → Tree R → Place → Option (Tree R)
kept_branch tree [] = Some tree
kept_branch tree (slot ∷ place) =
    option_and_then (λ branch. kept_branch branch place) (kept_at_slot tree slot)

abbrev pub kept_row : {R : Type 0} → Tree R → Place → Option R
kept_row tree place = option_and_then row_of (kept_branch tree place)

-- the rows of the list are just those that are kept at places
abbrev pub AreRows : {R : Type 0} → Tree R → Type 0
AreRows {R} tree =
    (place : Place) (row : R)
    → OneOf (λ item. item ≡ (place, row)) (rows_of tree) ↔ (kept_row tree place ≡ Some row)
