use Rattle.std.proofs.Common.{◌≡◌, ◌++◌, List, [], ◌∷◌, take, drop, length, ◌+◌, rules, arith, subst, sym, ap, ◌∙◌}
use Rattle.std.proofs.lemmas.List.{take_more, take_all}
use Rattle.cue_replica.specs.Language.{Table}
use Rattle.cue_lattice.specs.World.{Sets}
use Rattle.cue_replica.specs.declared.world.Event.{Event}
use Rattle.cue_replica.specs.declared.world.Outcome.{Outcome}
use Rattle.cue_replica.specs.Inner.Events.{TablesAgree, EventHappens}
use Rattle.cue_replica.proofs.Documents.{exact_sites}
use Rattle.cue_replica.proofs.Runs.{IsSoFar, so_far_none, so_far_more, equal_sites, sites_told_alike, lent_whole}
use Rattle.cue_replica.proofs.history.run.Goals as goal

pub loop-event-init : goal.loop-event-init
loop-event-init c = record {
  so_far = so_far_none c.args.sites c.in_ok-replicas.replicas.items c.in_ok-messages.messages.items c.in_ok-outcomes.outcomes.items
      c.in_ok-replicas.ensures c.in_ok-messages.ensures.items c.in_ok-outcomes.ensures.items;
  sent = search rules;
  told = search rules;
  message_room = search rules;
  outcome_room = search rules;
}

pub loop-event-preserved : goal.loop-event-preserved
loop-event-preserved c = record {
  so_far =
      let i = c.loop-event.event-index in
      let event = c.event-item.result in
      let old = c.loop-event.replicas.items in
      let new = c.happen-outcome.new.replicas in
      let messages = c.loop-event.messages.items in
      let messages' = c.happen-outcome.new.messages.items in
      let outcome = c.happen-outcome.result in
      let P : List Table → Type 0 = λ r. (sets : Sets) → TablesAgree r messages sets → EventHappens r messages event new messages' outcome sets in
      let more = so_far_more c.args.sites (take i c.args.events.now) event old new messages messages' c.loop-event.outcomes.items outcome
      c.loop-event.invariant.so_far (subst P c.deref_mut.ensures.value c.happen-outcome.ensures.happens) in
      let events_are : take (i + 1) c.args.events.now ≡ take i c.args.events.now ++ event ∷ [] =
      take_more c.args.events.now i event c.loop-event-test.true ∙ sym (ap (λ (y : Event). take i c.args.events.now ++ y ∷ []) c.event-item.is) in
      let replicas_are : take c.loop-event.replicas.len (new ++ drop (length new) old) ≡ new = lent_whole old new c.loop-event.replicas.len
      (omega (arith, c.happen-outcome.auto.replicas, c.deref_mut.ensures.len, ap length c.deref_mut.ensures.value)) (search rules) in
      let outcomes_are : c.push.new.self.items ≡ c.loop-event.outcomes.items ++ outcome ∷ [] = search rules in
      let Q : List Event → Type 0 = λ x. IsSoFar c.args.sites x new messages' (c.loop-event.outcomes.items ++ outcome ∷ []) in
      let R : List Table → Type 0 = λ x. IsSoFar c.args.sites (take (i + 1) c.args.events.now) x messages' (c.loop-event.outcomes.items ++ outcome ∷ []) in
      let S : List Outcome → Type 0 = λ x. IsSoFar c.args.sites (take (i + 1) c.args.events.now) (take c.loop-event.replicas.len (new ++ drop (length new) old)) messages' x in
      subst S (sym outcomes_are) (subst R (sym replicas_are) (subst Q (sym events_are) more));
  sent = omega (arith, c.happen-outcome.ensures.keeps.more, c.loop-event.invariant.sent);
  told = search rules;
  message_room = omega (arith, c.happen-outcome.ensures.keeps.room, c.loop-event.invariant.message_room);
  outcome_room = omega (arith, c.push.ensures.capacity, c.loop-event.invariant.outcome_room);
}

pub returns-clause-unified : goal.returns-clause-unified
returns-clause-unified c =
    let P : List Event → Type 0 = λ x. IsSoFar c.args.sites x c.loop-event.replicas.items c.loop-event.messages.items c.loop-event.outcomes.items in
    let done = subst P (take_all c.loop-event.event-index c.args.events.now (omega arith)) c.loop-event.invariant.so_far in
    done.agrees.sites

pub returns-clause-equal : goal.returns-clause-equal
returns-clause-equal c =
    let P : List Event → Type 0 = λ x. IsSoFar c.args.sites x c.loop-event.replicas.items c.loop-event.messages.items c.loop-event.outcomes.items in
    let done = subst P (take_all c.loop-event.event-index c.args.events.now (omega arith)) c.loop-event.invariant.so_far in
    equal_sites c.loop-event.replicas.items _ done.agrees.sites

pub returns-clause-told : goal.returns-clause-told
returns-clause-told c =
    let P : List Event → Type 0 = λ x. IsSoFar c.args.sites x c.loop-event.replicas.items c.loop-event.messages.items c.loop-event.outcomes.items in
    let done = subst P (take_all c.loop-event.event-index c.args.events.now (omega arith)) c.loop-event.invariant.so_far in
    sites_told_alike c.loop-event.replicas.items _ done.agrees.sites

pub returns-clause-exact : goal.returns-clause-exact
returns-clause-exact c =
    let P : List Event → Type 0 = λ x. IsSoFar c.args.sites x c.loop-event.replicas.items c.loop-event.messages.items c.loop-event.outcomes.items in
    let done = subst P (take_all c.loop-event.event-index c.args.events.now (omega arith)) c.loop-event.invariant.so_far in
    exact_sites c.loop-event.replicas.items _ done.agrees.sites
