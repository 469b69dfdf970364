-- Where a row of a table is kept: a list of slots, each a step or all elements from an index on.
use Rattle.std.specs.Prelude.{ℕ, List, [], ◌∷◌, ◌++◌, map}
use Rattle.std.specs.Option.{option_to_list}
use Rattle.std.specs.declared.cmp.Ordering.{Ordering}
use Rattle.std.specs.declared.cmp.Ordering.TheVariants.{Less, Greater}
use Rattle.std.specs.Ordering.{nat_cmp}
use Rattle.std.specs.Cmp.Lexicographic.{slice_cmp}
use Rattle.cue_lattice.specs.Path.{Step, step_cmp}
use Rattle.cue_table.specs.Tree.{Tree, node, Children, none, child, Rest, no_rest, onward}

pub data Slot : Type 0 where
  at : Step → Slot
  from : ℕ → Slot

-- the rest behind all steps
abbrev pub slot_cmp : Slot → Slot → Ordering
slot_cmp (at s) (at t) = step_cmp s t
slot_cmp (at s) (from n) = Less
slot_cmp (from m) (at t) = Greater
slot_cmp (from m) (from n) = nat_cmp m n

abbrev pub Place : Type 0
Place = List Slot

-- slot by slot, a place before those that it begins
abbrev pub place_cmp : Place → Place → Ordering
place_cmp = slice_cmp slot_cmp

-- a row one slot further from the root
abbrev pub row_behind : {R : Type 0} → Slot → Place × R → Place × R
row_behind slot row = (slot ∷ row.0, row.1)

-- the rows with their places, in their order
abbrev mutual
  pub rows_of : {R : Type 0} → Tree R → List (Place × R)
  rows_of (node row children rest) =
      map (λ r. ([], r)) (option_to_list row) ++ (rows_below children ++ rows_onward rest)

  pub rows_below : {R : Type 0} → Children R → List (Place × R)
  rows_below none = []
  rows_below (child step tree children) =
      map (row_behind (at step)) (rows_of tree) ++ rows_below children

  pub rows_onward : {R : Type 0} → Rest R → List (Place × R)
  rows_onward no_rest = []
  rows_onward (onward n tree) = map (row_behind (from n)) (rows_of tree)
