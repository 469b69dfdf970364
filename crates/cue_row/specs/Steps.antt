-- The steps of a path.
use Rattle.std.specs.Prelude.{◌≤◌, length}
use Rattle.cue_lattice.specs.Limits.{step_limit}
use Rattle.cue_lattice.specs.Path as paths
use Rattle.cue_row.specs.declared.step.Step.{Step}
use Rattle.cue_row.specs.declared.step.Step.TheVariants.{Label, Index}

-- the step that a step of the program stands for
abbrev pub step_of : Step → paths.Step
step_of (Label name) = paths.label name
step_of (Index number) = paths.index number

-- the path is one of the program: it has not too many steps
abbrev pub IsWithinDepth : paths.Path → Type 0
IsWithinDepth path = length path ≤ step_limit
