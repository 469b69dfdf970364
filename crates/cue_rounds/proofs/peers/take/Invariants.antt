use Rattle.cue_rounds.specs.Standing.{AreEach, IsOpened}
use Rattle.cue_rounds.proofs.peers.take.Given as goal

abbrev pub invariant-loop : goal.invariant-loop
invariant-loop g l = AreEach (IsOpened g.R.Client.ClientStream.written) l.fn.peers.places.items l.peers.places.items
