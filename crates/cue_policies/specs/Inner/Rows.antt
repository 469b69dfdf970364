-- The rows of a table, as a walk counts them.
use Rattle.std.specs.Prelude.{ℕ, ◌+◌, Option, Some, None}
use Rattle.cue_table.specs.Tree.{Tree, node, Children, none, child, Rest, no_rest, onward}

-- the row at a place itself
abbrev pub own_rows : {R : Type 0} → Option R → ℕ
own_rows None = 0
own_rows (Some row) = 1

abbrev mutual
  pub tree_rows : {R : Type 0} → Tree R → ℕ
  tree_rows (node row children rest) = own_rows row + children_rows children + rest_rows rest

  pub children_rows : {R : Type 0} → Children R → ℕ
  children_rows none = 0
  children_rows (child step tree children) = tree_rows tree + children_rows children

  pub rest_rows : {R : Type 0} → Rest R → ℕ
  rest_rows no_rest = 0
  rest_rows (onward n tree) = tree_rows tree
