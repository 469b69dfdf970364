-- Where a search is.
use Rattle.std.specs.Prelude.{ℕ, List, [], ◌∷◌, ◌++◌, map}
use Rattle.cue_lattice.specs.Path as paths
use Rattle.cue_lattice.specs.Path.{Path}
use Rattle.cue_row.specs.PathText.{path_dot, step_text}
use Rattle.cue_table.specs.StepsOfCode.{step_at}
use Rattle.cue_table.specs.declared.step_ref.StepRef.{StepRef}

-- the path of these steps
abbrev pub shown_steps : List StepRef → Path
shown_steps steps = map step_at steps

-- the step and a dot
abbrev pub dotted_behind : paths.Step → List ℕ
dotted_behind step = step_text step ++ path_dot ∷ []
