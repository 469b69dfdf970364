use Rattle.std.proofs.Common.{◌≡◌}
use Rattle.cue_rounds.specs.Standing.{Sends}
use Rattle.cue_rounds.proofs.peer.Peer.send.Given as goal

abbrev pub invariant-loop : goal.invariant-loop
invariant-loop g l = record {
  sends : Sends g.T.ClientStream.written l.fn.self l.self;
  held : l.self.held ≡ l.fn.self.held;
}
