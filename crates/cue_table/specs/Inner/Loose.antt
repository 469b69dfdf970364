-- The form of a tree that tells a list of rows: that of a table, but for where its rests begin.
use Rattle.std.specs.Prelude.{◌≡◌, ℕ, ◌+◌, Some}
use Rattle.cue_lattice.specs.Path.{index}
use Rattle.cue_table.specs.Tree.{Tree, node, Children, none, child, Rest, no_rest, onward}
use Rattle.cue_table.specs.Tree.{behind_last, find}
use Rattle.cue_table.specs.Form.{AreWithinDepth, DiffersFromRest, IsStepBelowAll, IsTableRow, IsTreeTaken}

-- P holds of each row, the steps of branches rise at each place, and no branch is empty
abbrev mutual
  pub IsLoose : {R : Type 0} → (R → Type 0) → Tree R → Type 0
  IsLoose P (node row children rest) = IsTableRow P row × AreLoose P children × IsLooseRest P rest

  pub AreLoose : {R : Type 0} → (R → Type 0) → Children R → Type 0
  AreLoose P none = Unit {0}
  AreLoose P (child step tree children) =
      IsStepBelowAll step children × IsTreeTaken tree × IsLoose P tree × AreLoose P children

  pub IsLooseRest : {R : Type 0} → (R → Type 0) → Rest R → Type 0
  IsLooseRest P no_rest = Unit {0}
  IsLooseRest P (onward n tree) = IsTreeTaken tree × IsLoose P tree

-- the rest begins behind the elements, the last of which differs from it
abbrev pub IsBehind : {R : Type 0} → ℕ → Tree R → Children R → Type 0
IsBehind n rest children = AreWithinDepth n children × DiffersFromRest n rest children

-- this is the last element
pub record IsLastElement {R : Type 0} (number : ℕ) (tree : Tree R) (children : Children R) : Type 0 where
  pub last : behind_last children ≡ number + 1
  pub found : find (index number) children ≡ Some tree
