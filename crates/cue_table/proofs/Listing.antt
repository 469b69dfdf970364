-- The rows of a tree as a list, written down by a walk.
use Rattle.std.proofs.Common.{◌≡◌, ◌+◌, ◌<◌, List, [], ◌∷◌, map, max, Some, None, refl, sym, ap, arith}
use Rattle.cue_lattice.specs.Path.{Step}
use Rattle.cue_table.specs.Tree.{Tree, node, Children, none, child, no_rest, onward, below, rest_below, rest_at, children_of}
use Rattle.cue_table.specs.Slots.{Place}
use Rattle.cue_table.specs.Size.{tree_size, children_size}
use Rattle.cue_table.specs.Depth.{tree_depth, children_depth, rest_depth}
use Rattle.cue_table.specs.Inner.Rows.{row_beyond}
use Rattle.cue_table.specs.Inner.Walks.{first_child}

module _ {R : Type 0} where
  -- what is left is no larger and no deeper
  pub left_size : (step : Step) (tree : Tree R) (rest left : Children R) → children_of rest ≡ (step, tree) ∷ children_of left → tree_size tree + children_size left ≡ children_size rest
  left_size step tree rest left e = sym (ap children_size (first_child rest left step tree e))

  pub left_depth : (step : Step) (tree : Tree R) (rest left : Children R) → children_of rest ≡ (step, tree) ∷ children_of left → max (tree_depth tree + 1) (children_depth left) ≡ children_depth rest
  left_depth step tree rest left e = sym (ap children_depth (first_child rest left step tree e))

  pub none_left : (rest : Children R) → children_of rest ≡ [] → children_depth rest ≡ 0
  none_left none e = refl
  none_left (child step tree rest) e = cc

  pub below_size : (tree : Tree R) → children_size (below tree) < tree_size tree
  below_size (node row children rest) = omega arith

  pub below_depth : (tree : Tree R) → max (children_depth (below tree)) (rest_depth (rest_below tree)) ≡ tree_depth tree
  below_depth (node row children rest) = refl

  pub rest_depth_some : (tree branch : Tree R) → rest_at (rest_below tree) ≡ Some branch → rest_depth (rest_below tree) ≡ tree_depth branch + 1
  rest_depth_some (node row children no_rest) branch e = cc
  rest_depth_some (node row children (onward n tree)) branch e = let same : tree ≡ branch = cc in ap (λ t. tree_depth t + 1) same

  pub rest_depth_none : (tree : Tree R) → rest_at (rest_below tree) ≡ None → rest_depth (rest_below tree) ≡ 0
  rest_depth_none (node row children no_rest) e = refl
  rest_depth_none (node row children (onward n tree)) e = cc

  pub all_rows : (rows : List (Place × R)) → map (row_beyond []) rows ≡ rows
  all_rows [] = refl
  all_rows (row ∷ rows) = let rest = all_rows rows in λ i. row ∷ rest i
