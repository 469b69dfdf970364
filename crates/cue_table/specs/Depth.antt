-- How deep a tree is.
use Rattle.std.specs.Prelude.{ℕ, ◌+◌, max}
use Rattle.cue_table.specs.Tree.{Tree, node, Children, none, child, Rest, no_rest, onward}

-- how many steps the longest path has on which branches stand
abbrev mutual
  pub tree_depth : {R : Type 0} → Tree R → ℕ
  tree_depth (node row children rest) = max (children_depth children) (rest_depth rest)

  pub children_depth : {R : Type 0} → Children R → ℕ
  children_depth none = 0
  children_depth (child step tree children) = max (tree_depth tree + 1) (children_depth children)

  pub rest_depth : {R : Type 0} → Rest R → ℕ
  rest_depth no_rest = 0
  rest_depth (onward n tree) = tree_depth tree + 1
