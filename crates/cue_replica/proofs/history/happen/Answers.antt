use Rattle.std.proofs.Common.{ℕ, List, Vec, Global, subst, sym}
use Rattle.cue_replica.specs.declared.world.Event.{Event}
use Rattle.cue_replica.specs.Inner.Events.{EventHappens, HappensAtSite, DeliversState}
use Rattle.cue_replica.specs.World.{SubmitsText, TakesState}
use Rattle.cue_replica.proofs.Events.{submit_happens, send_happens, deliver_happens, foreign_happens}
use Rattle.cue_replica.proofs.history.happen.Goals as goal

pub returns-in-Submit-clause-happens : goal.returns-in-Submit-clause-happens
returns-in-Submit-clause-happens c sets agrees =
    let messages = c.args.messages.now.items in
    let P : Event → Type 0 = λ e. EventHappens c.args.replicas.now messages e c.submit_at.new.replicas messages c.submit_at.result sets in
    let Q : List ℕ → Type 0 = λ t. HappensAtSite (SubmitsText t) c.args.replicas.now c.in-Submit.site c.submit_at.new.replicas c.submit_at.result in
    subst P (sym c.in-Submit.is)
    (submit_happens c.args.replicas.now c.submit_at.new.replicas messages c.in-Submit.site c.in-Submit.text c.submit_at.result sets
    (subst Q c.as_str.ensures c.submit_at.ensures) agrees)

pub returns-in-Send-clause-happens : goal.returns-in-Send-clause-happens
returns-in-Send-clause-happens c sets agrees =
    let messages = c.args.messages.now.items in
    let P : Event → Type 0 = λ e. EventHappens c.args.replicas.now messages e c.args.replicas.now c.send_from.new.messages.items c.send_from.result sets in
    subst P (sym c.in-Send.is)
    (send_happens c.args.replicas.now messages c.send_from.new.messages.items c.in-Send.site c.send_from.result sets c.send_from.ensures.sends agrees)

pub returns-in-Deliver-clause-happens : goal.returns-in-Deliver-clause-happens
returns-in-Deliver-clause-happens c sets agrees =
    let messages = c.args.messages.now.items in
    let P : Event → Type 0 = λ e. EventHappens c.args.replicas.now messages e c.deliver_to.new.replicas messages c.deliver_to.result sets in
    let Q : List (Vec ℕ Global) → Type 0 = λ m. DeliversState m c.in-Deliver.message c.args.replicas.now c.in-Deliver.site c.deliver_to.new.replicas c.deliver_to.result in
    subst P (sym c.in-Deliver.is)
    (deliver_happens c.args.replicas.now c.deliver_to.new.replicas messages c.in-Deliver.site c.in-Deliver.message c.deliver_to.result sets
    (subst Q c.deref.ensures.value c.deliver_to.ensures) agrees)

pub returns-in-Foreign-clause-happens : goal.returns-in-Foreign-clause-happens
returns-in-Foreign-clause-happens c sets agrees =
    let messages = c.args.messages.now.items in
    let P : Event → Type 0 = λ e. EventHappens c.args.replicas.now messages e c.take_at.new.replicas messages c.take_at.result sets in
    let Q : List ℕ → Type 0 = λ b. HappensAtSite (TakesState b) c.args.replicas.now c.in-Foreign.site c.take_at.new.replicas c.take_at.result in
    subst P (sym c.in-Foreign.is)
    (foreign_happens c.args.replicas.now c.take_at.new.replicas messages c.in-Foreign.site c.in-Foreign.bytes c.take_at.result sets
    (subst Q c.as_slice.ensures.value c.take_at.ensures) agrees)
