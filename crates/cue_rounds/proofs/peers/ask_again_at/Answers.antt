use Rattle.std.proofs.Common.{None, subst}
use Rattle.cue_rounds.specs.declared.peers.PeerSlot.TheVariants.{Free}
use Rattle.cue_rounds.specs.Standing.{AtPlace, Lives}
use Rattle.cue_rounds.proofs.Steps.{changes_itself}
use Rattle.cue_rounds.proofs.Working.{at_work_itself, at_work_set}
use Rattle.cue_rounds.proofs.peers.ask_again_at.Goals as goal

pub returns-in-Some : goal.returns-in-Some
returns-in-Some g c =
    let written = g.T.ClientStream.written in
    let k = c.ask_again.ensures in
    at_work_set written g.S.Settle.answers _ _ c.ask_again.new.service.inner _ c.args.place k.0 c.ask_again.new.self c.args.places.now.items k.1
    (changes_itself g.S.Gathers.pulls_state g.S.Gathers.pulls_pieces g.S.Gathers.pulls_layers g.S.Gathers.rests _) c.in-Some.ensures.item.3.0
    (subst (λ s. AtPlace (Lives written) k.0 s c.ask_again.new.self) (c.in-Some.ensures.item.3.1 (Free None)) k.2)

pub returns-in-None : goal.returns-in-None
returns-in-None g c = at_work_itself g.T.ClientStream.written g.S.Settle.answers _ _ c.args.places.now.items
