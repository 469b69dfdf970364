-- Nodes that are open: those on the way to the last row, each apart from the one below it.
use Rattle.std.specs.Prelude.{◌≡◌, ◌⊎◌, ◌≤◌, List, [], ◌∷◌}
use Rattle.std.specs.List.{AllByRecursion}
use Rattle.std.specs.declared.cmp.Ordering.TheVariants.{Less}
use Rattle.cue_lattice.specs.Limits.{step_limit}
use Rattle.cue_table.specs.Depth.{tree_depth}
use Rattle.cue_table.specs.Form.{IsTreeTaken, IsTree}
use Rattle.cue_table.specs.Slots.{Slot, at, from, slot_cmp, Place}
use Rattle.cue_table.specs.Tree.{Tree, node, Children, none, child, no_rest, onward, empty, below, rest_below}
use Rattle.cue_table.specs.Inner.Join.{join_children}
use Rattle.cue_table.specs.Inner.RowList.{last_cmp}

-- a branch hung in at a slot, behind the others of a place
abbrev pub hang_branch : {R : Type 0} → Tree R → Slot → Tree R → Tree R
hang_branch (node row children rest) (at step) tree = node row (join_children children (child step tree none)) rest
hang_branch (node row children rest) (from n) tree = node row children (onward n tree)

-- the tree of open nodes, each hung into the one above it
abbrev pub close_trees : {R : Type 0} → List (Tree R × Slot) → Tree R → Tree R
close_trees [] last = last
close_trees (o ∷ above) last = hang_branch o.0 o.1 (close_trees above last)

-- the slot is behind all branches
abbrev pub IsBehindAll : {R : Type 0} → Slot → Children R → Type 0
IsBehindAll (at step) children = last_cmp step children ≡ Less
IsBehindAll (from n) children = Unit {0}

-- a node in form that goes on at a slot behind all its branches
pub record IsOpen {R : Type 0} (P : R → Type 0) (o : Tree R × Slot) : Type 0 where
  pub form : IsTree P o.0
  pub rest : rest_below o.0 ≡ no_rest
  pub behind : IsBehindAll o.1 (below o.0)

-- What a draft keeps: nodes in form, of which the last has no branches, and there stands a row
-- unless there is none at all.
pub record IsDraft {R : Type 0} (P : R → Type 0) (above : List (Tree R × Slot)) (last : Tree R)
    : Type 0 where
  pub opened : AllByRecursion (IsOpen P) above
  pub form : IsTree P last
  pub leaf : (below last ≡ none) × (rest_below last ≡ no_rest)
  pub taken : ((above ≡ []) × (last ≡ empty)) ⊎ IsTreeTaken last
  pub depth : tree_depth (close_trees above last) ≤ step_limit

-- the place is behind all that stands at the end of a path of slots or below, and outside it
abbrev pub IsBeyond : Place → Place → Type 0
IsBeyond [] place = ⊥
IsBeyond (slot ∷ path) [] = ⊥
IsBeyond (slot ∷ path) (other ∷ place) =
    (slot_cmp slot other ≡ Less) ⊎ ((slot ≡ other) × IsBeyond path place)
