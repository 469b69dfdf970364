use Rattle.std.proofs.Common.{[], None, subst}
use Rattle.cue_rounds.specs.declared.peers.PeerSlot.TheVariants.{Free}
use Rattle.cue_rounds.specs.Standing.{AtPlace, Works}
use Rattle.cue_rounds.proofs.Places.{each_set}
use Rattle.cue_rounds.proofs.Working.{works_itself, each_silent}
use Rattle.cue_rounds.proofs.peers.end_overdue_at.Goals as goal

pub returns-in-Some : goal.returns-in-Some
returns-in-Some g c =
    let written = g.T.ClientStream.written in
    each_set (Works written) (works_itself written) c.args.place [] c.end_overdue.new.self c.args.places.now.items c.in-Some.ensures.item.3.0
    (subst (λ s. AtPlace (Works written) [] s c.end_overdue.new.self) (c.in-Some.ensures.item.3.1 (Free None)) c.end_overdue.ensures)

pub returns-in-None : goal.returns-in-None
returns-in-None g c = each_silent g.T.ClientStream.written c.args.places.now.items
