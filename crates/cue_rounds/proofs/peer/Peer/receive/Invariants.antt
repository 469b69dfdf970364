use Rattle.std.proofs.Common.{[]}
use Rattle.cue_rounds.specs.Standing.{Works}
use Rattle.cue_rounds.proofs.peer.Peer.receive.Given as goal

abbrev pub invariant-loop : goal.invariant-loop
invariant-loop g l = Works g.T.ClientStream.written [] l.fn.self l.self
