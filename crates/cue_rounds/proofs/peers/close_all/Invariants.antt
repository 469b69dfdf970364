use Rattle.cue_rounds.specs.Standing.{AreEach, IsClosed}
use Rattle.cue_rounds.proofs.peers.close_all.Given as goal

abbrev pub invariant-loop-place : goal.invariant-loop-place
invariant-loop-place g l = AreEach IsClosed l.fn.places.items l.places.items
