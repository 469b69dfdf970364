-- Beside `specs/PathText.antt`: what private clauses and proofs alone cite.
use Rattle.std.specs.Prelude.{ℕ, List, ◌∷◌}
use Rattle.cue_row.specs.declared.step.Step as program
use Rattle.cue_row.specs.Steps.{step_of}
use Rattle.cue_row.specs.PathText.{path_dot, step_text}

-- a dot and the step
abbrev pub dot_and_step : program.Step → List ℕ
dot_and_step step = path_dot ∷ step_text (step_of step)
