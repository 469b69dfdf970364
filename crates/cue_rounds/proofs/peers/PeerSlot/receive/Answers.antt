use Rattle.cue_rounds.specs.Standing.{Lives}
use Rattle.cue_rounds.proofs.Places.{at_taken}
use Rattle.cue_rounds.proofs.Working.{lives_working}
use Rattle.cue_rounds.proofs.peers.PeerSlot.receive.Goals as goal

pub returns-in-Taken : goal.returns-in-Taken
returns-in-Taken g c =
    let written = g.T.ClientStream.written in
    let k = c.receive.ensures in
    (k.0, k.1, k.2, k.3, at_taken (Lives written) k.0 c.args.self.now c.in-Taken.peer c.receive.new.peer c.in-Taken.is (lives_working written k.0 _ _ k.4))
