-- Branches that are given for a table.
use Rattle.std.specs.Prelude.{◌≡◌, ◌<◌, Bool, is_some, Option, None, []}
use Rattle.cue_lattice.specs.Limits.{step_limit}
use Rattle.cue_lattice.specs.Path.{Path}
use Rattle.cue_row.specs.Steps.{step_of}
use Rattle.cue_row.specs.declared.step.Step.{Step}
use Rattle.cue_table.specs.Depth.{tree_depth}
use Rattle.cue_table.specs.Form.{IsTable, IsTreeTaken}
use Rattle.cue_table.specs.Inner.Child.{Child}
use Rattle.cue_table.specs.Refuses.{RowRefuses}
use Rattle.cue_table.specs.Tree.{Tree, node, none, child, no_rest, if_not_empty}

-- a branch as it is given
abbrev pub given_of : {R : Type 0} → Child R → Step × Tree R
given_of c = (c.step, c.node)

-- a row stands in the table that is given
abbrev pub has_rows : {R : Type 0} → Step × Tree R → Bool
has_rows one = is_some (if_not_empty one.1)

-- what may be a branch at the root of a table
abbrev pub IsBranch : {R Q : Type 0} → (R → Q → Type 0) → (R → Type 0) → Child R → Type 0
IsBranch refuses is_value c =
    IsTreeTaken c.node × IsTable refuses is_value c.node × (tree_depth c.node < step_limit)

-- the tree that has one branch alone
abbrev pub tree_of_branch : {R : Type 0} → Child R → Tree R
tree_of_branch c = node None (child (step_of c.step) c.node none) no_rest

-- the row refuses the question at the root
abbrev pub RefusesAtRoot : {R Q : Type 0} → (R → Q → Type 0) → Option R → Path → Q → Type 0
RefusesAtRoot refuses row path question = (path ≡ []) × RowRefuses refuses row question
