use Rattle.std.proofs.Common.{[]}
use Rattle.cue_rounds.specs.Standing.{Each, Works}
use Rattle.cue_rounds.proofs.peers.Peers.end_overdue.Given as goal

abbrev pub invariant-loop-place : goal.invariant-loop-place
invariant-loop-place g l = Each (Works g.T.ClientStream.written) [] l.fn.self.places.items l.self.places.items
