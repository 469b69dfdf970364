-- Beside `specs/RowList.antt`: what private clauses and proofs alone cite.
use Rattle.std.specs.declared.cmp.Ordering.{Ordering}
use Rattle.std.specs.declared.cmp.Ordering.TheVariants.{Less}
use Rattle.cue_lattice.specs.Path.{Step, step_cmp}
use Rattle.cue_table.specs.Tree.{Children, none, child}

-- how the step of the last branch compares with another; where there is no branch, it is before
abbrev pub last_cmp : {R : Type 0} → Step → Children R → Ordering
last_cmp step none = Less
last_cmp step (child next tree none) = step_cmp next step
last_cmp step (child next tree (child other branch children)) =
    last_cmp step (child other branch children)
