use Rattle.std.proofs.Common.{◌≡◌, take, map}
use Rattle.cue_row.specs.Steps.{step_of}
use Rattle.cue_table.specs.StepsOfCode.{step_at}
use Rattle.cue_report.proofs.place.copy_steps.Given as goal

abbrev pub invariant-loop-step : goal.invariant-loop-step
invariant-loop-step l = map step_of l.copies.items ≡ map step_at (take l.step-index l.steps)
