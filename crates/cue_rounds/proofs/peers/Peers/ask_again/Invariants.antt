use Rattle.cue_rounds.specs.Standing.{AreAtWork, Changes}
use Rattle.cue_rounds.proofs.peers.Peers.ask_again.Given as goal

abbrev pub invariant-loop-place : goal.invariant-loop-place
invariant-loop-place g l =
    AreAtWork g.S.Settle.answers (Changes g.S.Gathers.pulls_state g.S.Gathers.pulls_pieces g.S.Gathers.pulls_layers g.S.Gathers.rests) g.T.ClientStream.written
    l.fn.service.inner l.service.inner l.fn.self.places.items l.self.places.items
