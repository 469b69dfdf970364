use Rattle.std.proofs.Common.{[]}
use Rattle.cue_rounds.specs.Standing.{Each, Sends}
use Rattle.cue_rounds.proofs.peers.send_all.Given as goal

abbrev pub invariant-loop-place : goal.invariant-loop-place
invariant-loop-place g l = Each (λ _. Sends g.T.ClientStream.written) [] l.fn.places.items l.places.items
