use Rattle.std.proofs.Common.{ℕ, List, map, Vec, Global, subst, sym}
use Rattle.cue_layers.specs.Refusals.{piece_of_refusal}
use Rattle.cue_layers.specs.declared.piece.Piece.{Piece as OwnedPiece}
use Rattle.cue_layers_world.specs.declared.world.LayersEvent.{LayersEvent}
use Rattle.cue_layers_world.specs.Inner.Steps.{StepsMaps, HappensAtMap, PutsLayer, SubmitsToMap, TakesForeign, DeliversMap}
use Rattle.cue_layers_world.proofs.Events.{put_happens, submit_happens, send_happens, deliver_happens, foreign_happens}
use Rattle.cue_layers_world.proofs.steps.happen.Goals as goal

pub returns-in-Put-clause-steps : goal.returns-in-Put-clause-steps
returns-in-Put-clause-steps c sets agrees =
    let old = c.args.sites.now in
    let new = c.put_at.new.sites in
    let messages = c.args.messages.now.items in
    let P : LayersEvent → Type 0 = λ e. StepsMaps e new messages c.put_at.result sets in
    let N : List ℕ → Type 0 = λ n. HappensAtMap (PutsLayer c.in-Put.kind n (map piece_of_refusal c.as_slice.result.now)) old c.in-Put.site new c.put_at.result in
    let Q : List OwnedPiece → Type 0 = λ ps. HappensAtMap (PutsLayer c.in-Put.kind c.in-Put.name (map piece_of_refusal ps)) old c.in-Put.site new c.put_at.result in
    subst P (sym c.in-Put.is)
    (put_happens old new messages c.in-Put.site c.in-Put.kind c.in-Put.name c.in-Put.pieces c.put_at.result sets
    (subst Q c.as_slice.ensures.value (subst N c.as_str.ensures c.put_at.ensures)) agrees)

pub returns-in-Submit-clause-steps : goal.returns-in-Submit-clause-steps
returns-in-Submit-clause-steps c sets agrees =
    let old = c.args.sites.now in
    let new = c.submit_at.new.sites in
    let messages = c.args.messages.now.items in
    let P : LayersEvent → Type 0 = λ e. StepsMaps e new messages c.submit_at.result sets in
    let Q : List ℕ → Type 0 = λ t. HappensAtMap (SubmitsToMap t) old c.in-Submit.site new c.submit_at.result in
    subst P (sym c.in-Submit.is)
    (submit_happens old new messages c.in-Submit.site c.in-Submit.text c.submit_at.result sets (subst Q c.as_str-in-Submit.ensures c.submit_at.ensures) agrees)

pub returns-in-Send-clause-steps : goal.returns-in-Send-clause-steps
returns-in-Send-clause-steps c sets agrees =
    let new = c.send_from.new.messages.items in
    let P : LayersEvent → Type 0 = λ e. StepsMaps e c.args.sites.now new c.send_from.result sets in
    subst P (sym c.in-Send.is)
    (send_happens c.args.sites.now c.args.messages.now.items new c.in-Send.site c.send_from.result sets c.send_from.ensures.sends agrees)

pub returns-in-Deliver-clause-steps : goal.returns-in-Deliver-clause-steps
returns-in-Deliver-clause-steps c sets agrees =
    let old = c.args.sites.now in
    let new = c.deliver_to.new.sites in
    let messages = c.args.messages.now.items in
    let P : LayersEvent → Type 0 = λ e. StepsMaps e new messages c.deliver_to.result sets in
    let Q : List (Vec ℕ Global) → Type 0 = λ m. DeliversMap m c.in-Deliver.message old c.in-Deliver.site new c.deliver_to.result in
    subst P (sym c.in-Deliver.is)
    (deliver_happens old new messages c.in-Deliver.site c.in-Deliver.message c.deliver_to.result sets (subst Q c.deref.ensures.value c.deliver_to.ensures) agrees)

pub returns-in-Foreign-clause-steps : goal.returns-in-Foreign-clause-steps
returns-in-Foreign-clause-steps c sets agrees =
    let old = c.args.sites.now in
    let new = c.take_foreign.new.sites in
    let messages = c.args.messages.now.items in
    let P : LayersEvent → Type 0 = λ e. StepsMaps e new messages c.take_foreign.result sets in
    let Q : List ℕ → Type 0 = λ b. TakesForeign b old c.in-Foreign.site new c.take_foreign.result in
    subst P (sym c.in-Foreign.is)
    (foreign_happens old new messages c.in-Foreign.site c.in-Foreign.bytes c.take_foreign.result sets (subst Q c.as_slice-in-Foreign.ensures.value c.take_foreign.ensures) agrees)
