use Rattle.std.proofs.Common.{◌≡◌, ◌++◌, List, [], ◌∷◌, take, drop, length, ◌+◌, rules, arith, subst, sym, ap, ◌∙◌}
use Rattle.std.proofs.lemmas.List.{take_more, take_all}
use Rattle.cue_replica.proofs.Runs.{lent_whole}
use Rattle.cue_layers_world.specs.World.{LayerSets}
use Rattle.cue_layers_world.specs.declared.world.LayersEvent.{LayersEvent}
use Rattle.cue_layers_world.specs.declared.world.LayersOutcome.{LayersOutcome}
use Rattle.cue_layers_world.specs.Inner.Steps.{Map, MapsAgree, StepsMaps}
use Rattle.cue_layers_world.proofs.Runs.{IsSoFar, so_far_none, so_far_more, equal_sites, sites_of_equal_views}
use Rattle.cue_layers_world.proofs.history.run.Goals as goal

pub loop-event-init : goal.loop-event-init
loop-event-init c = record {
  so_far = so_far_none c.args.count c.in_ok-sites.sites.items c.in_ok-messages.messages.items c.in_ok-outcomes.outcomes.items
      c.in_ok-sites.ensures c.in_ok-messages.ensures.items c.in_ok-outcomes.ensures.items;
  sent = search rules;
  count = search rules;
  message_room = search rules;
  outcome_room = search rules;
}

pub loop-event-preserved : goal.loop-event-preserved
loop-event-preserved c = record {
  so_far =
      let i = c.loop-event.event-index in
      let event = c.event-item.result in
      let old = c.loop-event.sites.items in
      let new = c.happen-outcome.new.sites in
      let messages = c.loop-event.messages.items in
      let messages' = c.happen-outcome.new.messages.items in
      let outcome = c.happen-outcome.result in
      let P : List Map → Type 0 = λ r. (sets : LayerSets) → MapsAgree r messages sets → StepsMaps event new messages' outcome sets in
      let more = so_far_more c.args.count (take i c.args.events.now) event old new messages messages' c.loop-event.outcomes.items outcome
      c.loop-event.invariant.so_far (subst P c.deref_mut.ensures.value c.happen-outcome.ensures.steps) in
      let events_are : take (i + 1) c.args.events.now ≡ take i c.args.events.now ++ event ∷ [] =
      take_more c.args.events.now i event c.loop-event-test.true ∙ sym (ap (λ (y : LayersEvent). take i c.args.events.now ++ y ∷ []) c.event-item.is) in
      let sites_are : take c.loop-event.sites.len (new ++ drop (length new) old) ≡ new = lent_whole old new c.loop-event.sites.len
      (omega (arith, c.happen-outcome.auto.sites, c.deref_mut.ensures.len, ap length c.deref_mut.ensures.value)) (search rules) in
      let outcomes_are : c.push.new.self.items ≡ c.loop-event.outcomes.items ++ outcome ∷ [] = search rules in
      let Q : List LayersEvent → Type 0 = λ x. IsSoFar c.args.count x new messages' (c.loop-event.outcomes.items ++ outcome ∷ []) in
      let R : List Map → Type 0 = λ x. IsSoFar c.args.count (take (i + 1) c.args.events.now) x messages' (c.loop-event.outcomes.items ++ outcome ∷ []) in
      let S : List LayersOutcome → Type 0 = λ x. IsSoFar c.args.count (take (i + 1) c.args.events.now) (take c.loop-event.sites.len (new ++ drop (length new) old)) messages' x in
      subst S (sym outcomes_are) (subst R (sym sites_are) (subst Q (sym events_are) more));
  sent = omega (arith, c.happen-outcome.ensures.keeps.more, c.loop-event.invariant.sent);
  count = search rules;
  message_room = omega (arith, c.happen-outcome.ensures.keeps.room, c.loop-event.invariant.message_room);
  outcome_room = omega (arith, c.push.ensures.capacity, c.loop-event.invariant.outcome_room);
}

pub returns-clause-equal : goal.returns-clause-equal
returns-clause-equal c sets reached =
    let P : List LayersEvent → Type 0 = λ x. IsSoFar c.args.count x c.loop-event.sites.items c.loop-event.messages.items c.loop-event.outcomes.items in
    let done = subst P (take_all c.loop-event.event-index c.args.events.now (omega arith)) c.loop-event.invariant.so_far in
    equal_sites c.loop-event.sites.items sets.sites (done.every sets reached).sites

pub returns-clause-views : goal.returns-clause-views
returns-clause-views c sets reached =
    let P : List LayersEvent → Type 0 = λ x. IsSoFar c.args.count x c.loop-event.sites.items c.loop-event.messages.items c.loop-event.outcomes.items in
    let done = subst P (take_all c.loop-event.event-index c.args.events.now (omega arith)) c.loop-event.invariant.so_far in
    sites_of_equal_views c.loop-event.sites.items sets.sites (done.every sets reached).sites
