use Rattle.std.proofs.Common.{◌≡◌, ◌++◌, take, string_bytes}
use Rattle.std.specs.List.{flat_map}
use Rattle.cue_report.specs.Inner.Trail.{dotted_behind, shown_steps}
use Rattle.cue_report.proofs.written.push_above.Given as goal

abbrev pub invariant-loop-step : goal.invariant-loop-step
invariant-loop-step l = string_bytes l.out ≡ string_bytes l.initial.out ++ flat_map dotted_behind (shown_steps (take l.step-index l.steps))
