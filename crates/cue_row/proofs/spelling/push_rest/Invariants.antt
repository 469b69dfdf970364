use Rattle.std.proofs.Common.{◌≡◌, ◌++◌, take, string_bytes}
use Rattle.std.specs.List.{flat_map}
use Rattle.cue_row.specs.Inner.PathText.{dot_and_step}
use Rattle.cue_row.proofs.spelling.push_rest.Given as goal

abbrev pub invariant-loop-step : goal.invariant-loop-step
invariant-loop-step l = string_bytes l.out ≡ string_bytes l.initial.out ++ flat_map dot_and_step (take l.step-index l.steps)
