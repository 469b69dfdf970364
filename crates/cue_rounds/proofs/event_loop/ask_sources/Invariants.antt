use Rattle.std.proofs.Common.{◌≡◌, length}
use Rattle.cue_rounds.proofs.event_loop.ask_sources.Given as goal

abbrev pub invariant-loop-number : goal.invariant-loop-number
invariant-loop-number g l = length l.asked.items ≡ l.number
