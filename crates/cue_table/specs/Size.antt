-- How large a tree is, by which a recursion over its branches ends.
use Rattle.std.specs.Prelude.{ℕ, ◌+◌}
use Rattle.cue_table.specs.Tree.{Tree, node, Children, none, child, Rest, no_rest, onward}

-- how many places the tree has, its own included
abbrev mutual
  pub tree_size : {R : Type 0} → Tree R → ℕ
  tree_size (node row children rest) = children_size children + rest_size rest + 1

  pub children_size : {R : Type 0} → Children R → ℕ
  children_size none = 0
  children_size (child step tree children) = tree_size tree + children_size children

  pub rest_size : {R : Type 0} → Rest R → ℕ
  rest_size no_rest = 0
  rest_size (onward n tree) = tree_size tree
