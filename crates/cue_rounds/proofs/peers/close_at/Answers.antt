use Rattle.std.proofs.Common.{None, subst}
use Rattle.cue_rounds.specs.declared.peers.PeerSlot.TheVariants.{Free}
use Rattle.cue_rounds.specs.Standing.{IsClosed}
use Rattle.cue_rounds.proofs.Places.{are_itself, are_set, closed_itself}
use Rattle.cue_rounds.proofs.peers.close_at.Goals as goal

pub returns-in-Some : goal.returns-in-Some
returns-in-Some g c =
    are_set IsClosed closed_itself c.args.place c.close.new.self c.args.places.now.items c.in-Some.ensures.item.3.0
    (subst (λ s. IsClosed s c.close.new.self) (c.in-Some.ensures.item.3.1 (Free None)) c.close.ensures)

pub returns-in-None : goal.returns-in-None
returns-in-None g c = are_itself IsClosed closed_itself c.args.places.now.items
