use Rattle.cue_rounds.specs.Standing.{Lives}
use Rattle.cue_rounds.proofs.Places.{at_taken}
use Rattle.cue_rounds.proofs.Working.{lives_either}
use Rattle.cue_rounds.proofs.peers.PeerSlot.ask_again.Goals as goal

pub returns-in-Taken : goal.returns-in-Taken
returns-in-Taken g c =
    let written = g.T.ClientStream.written in
    let k = c.ask_again.ensures.calls in
    (k.0, k.1, at_taken (Lives written) k.0 c.args.self.now c.in-Taken.peer c.ask_again.new.self c.in-Taken.is (lives_either written k.0 _ _ k.2))
