-- Beside `specs/Meet.antt`: what private clauses and proofs alone cite.
use Rattle.std.specs.Prelude.{Some}
use Rattle.std.specs.Option.{option_and_then}
use Rattle.cue_lattice.specs.Path as paths
use Rattle.cue_lattice.specs.Path.{Path}
use Rattle.cue_table.specs.Tree.{Tree, node, Children, none, no_rest, row_of, find}
use Rattle.cue_table.specs.Tree.{branch_at}
use Rattle.cue_table.specs.Refuses.{RowRefuses}
use Rattle.cue_table.specs.Form.{IsStepBelowAll, AreBranches}
use Rattle.cue_table.specs.Meet.{IsUnion}
use Rattle.cue_table.specs.Inner.Rests.{tree_along}

-- what the branches refuse at a step and then a path
abbrev pub BranchesRefuse : {R Q : Type 0} → (R → Q → Type 0) → Children R → paths.Step → Path
    → Q → Type 0
BranchesRefuse refuses children step path =
    RowRefuses refuses
    (option_and_then row_of
    (option_and_then (λ branch. branch_at branch path) (find step children)))

-- the met branches refuse exactly what one of both lists does
abbrev pub AreMet : {R Q : Type 0} → (R → Q → Type 0) → Children R → Children R
    → Children R → Type 0
AreMet refuses a b met =
    (step : paths.Step) (path : Path) →
    IsUnion (BranchesRefuse refuses a step path) (BranchesRefuse refuses b step path)
    (BranchesRefuse refuses met step path)

-- The third list of branches is in form, refuses what the other two do, and starts no earlier.
pub record IsMerge {R Q : Type 0} (refuses : R → Q → Type 0) (P : R → Type 0)
    (left right met : Children R) : Type 0 where
  pub form : AreBranches P met
  pub refused : AreMet refuses left right met
  pub above : (step : paths.Step) → IsStepBelowAll step left → IsStepBelowAll step right
      → IsStepBelowAll step met

-- one row alone, at its path
abbrev pub chain : {R : Type 0} → Path → R → Tree R
chain path row = tree_along path (node (Some row) none no_rest)
