use Rattle.std.proofs.Common.{◌≡◌, ◌+◌, length}
use Rattle.cue_why.proofs.Mets.{AllFree}
use Rattle.cue_why.proofs.met.free_trail.Given as goal

abbrev pub invariant-loop-step : goal.invariant-loop-step
invariant-loop-step l = record { long : length l.rows.items ≡ l._step-index + 1; free : AllFree l.rows.items }
