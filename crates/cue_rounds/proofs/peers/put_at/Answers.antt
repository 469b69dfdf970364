use Rattle.std.proofs.Common.{None, subst}
use Rattle.cue_rounds.specs.declared.peers.PeerSlot.TheVariants.{Free}
use Rattle.cue_rounds.specs.Standing.{IsOpened}
use Rattle.cue_rounds.proofs.Places.{are_unopened, are_set, opened_itself}
use Rattle.cue_rounds.proofs.peers.put_at.Goals as goal

pub returns-in-Some-clause-opens : goal.returns-in-Some-clause-opens
returns-in-Some-clause-opens g c =
    let written = g.T.ClientStream.written in
    are_set (IsOpened written) (opened_itself written) c.args.place c.put.new.self c.args.places.now.items c.in-Some.ensures.item.3.0
    (subst (λ s. IsOpened written s c.put.new.self) (c.in-Some.ensures.item.3.1 (Free None)) c.put.ensures)

pub returns-in-None-clause-opens : goal.returns-in-None-clause-opens
returns-in-None-clause-opens g c = are_unopened g.T.ClientStream.written c.args.places.now.items
