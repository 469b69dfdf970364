use Rattle.std.proofs.Common.{[], None, subst}
use Rattle.cue_rounds.specs.declared.peers.PeerSlot.TheVariants.{Free}
use Rattle.cue_rounds.specs.Standing.{AtPlace, Sends}
use Rattle.cue_rounds.proofs.Places.{each_set}
use Rattle.cue_rounds.proofs.Working.{sends_itself, each_unsent}
use Rattle.cue_rounds.proofs.peers.send_at.Goals as goal

pub returns-in-Some : goal.returns-in-Some
returns-in-Some g c =
    let written = g.T.ClientStream.written in
    each_set (λ _. Sends written) (sends_itself written) c.args.place [] c.send.new.self c.args.places.now.items c.in-Some.ensures.item.3.0
    (subst (λ s. AtPlace (λ _. Sends written) [] s c.send.new.self) (c.in-Some.ensures.item.3.1 (Free None)) c.send.ensures)

pub returns-in_default : goal.returns-in_default
returns-in_default g c = each_unsent g.T.ClientStream.written c.args.places.now.items
