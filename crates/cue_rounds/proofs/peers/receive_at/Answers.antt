use Rattle.std.proofs.Common.{None, subst}
use Rattle.cue_rounds.specs.declared.peers.PeerSlot.TheVariants.{Free}
use Rattle.cue_rounds.specs.Standing.{AtPlace, Lives}
use Rattle.cue_rounds.proofs.Working.{at_work_itself, at_work_set}
use Rattle.cue_rounds.proofs.peers.receive_at.Goals as goal

pub returns-in-Some : goal.returns-in-Some
returns-in-Some g c =
    let written = g.T.ClientStream.written in
    let k = c.receive.ensures in
    at_work_set written g.S.Settle.answers _ _ k.1 _ c.args.place k.0 c.receive.new.self c.args.places.now.items k.2 k.3 c.in-Some.ensures.item.3.0
    (subst (λ s. AtPlace (Lives written) k.0 s c.receive.new.self) (c.in-Some.ensures.item.3.1 (Free None)) k.4)

pub returns-in-None : goal.returns-in-None
returns-in-None g c = at_work_itself g.T.ClientStream.written g.S.Settle.answers _ _ c.args.places.now.items
