use Rattle.std.proofs.Common.{Bool, ◌≡◌, ◌∷◌, Some, None, sym, ap, ◌∙◌, rules}
use Rattle.std.specs.Prelude.{option_map}
use Rattle.std.specs.Vec.Iter.{into_iter_items}
use Rattle.cue_scalars.specs.Scalars.{members}
use Rattle.cue_scalars.specs.Inner.Lists.{value_of}
use Rattle.cue_scalars.specs.Values.{pair_of_value}
use Rattle.cue_scalars.specs.Pairs.{ScalarPair, default_of}
use Rattle.cue_scalars.proofs.Disjunctions.{usuals_none, usuals_more, AreWithin-more, AreWithin-both}
use Rattle.cue_scalars.specs.declared.valued.Valued.{Valued}
use Rattle.cue_scalars.proofs.Moved.{sets_more}
use Rattle.cue_scalars.proofs.valued.Valued.split.Goals as goal

pub loop-marked-preserved-in-Continue-branch-4 : goal.loop-marked-preserved-in-Continue-branch-4
loop-marked-preserved-in-Continue-branch-4 c =
    let term : Bool × Valued = (c.in-Some.marked, c.in-Some.term) in
    let later = into_iter_items c.next.new.self in
    let is : into_iter_items c.loop-marked.marked-iterator ≡ term ∷ later = search rules in
    let values = c.loop-marked.values.items in
    let usuals = c.loop-marked.usuals.items in
    let brings : Some (members c.in-Some-usual.usual) ≡ default_of c.args.any_marked (c.in-Some.marked, pair_of_value c.in-Some.term) =
    sym (ap (option_map members) c.in-Some-usual.is) ∙ ap (λ (pair : ScalarPair). pair.usual) c.in_ok-value.ensures in
    rw (c.in_ok-push.ensures.items, c.in_ok-push-2.ensures.items) record {
      values = sets_more value_of values c.in_ok-value.field-0.value term (into_iter_items c.loop-marked.marked-iterator) later c.args.terms.items is (ap (λ (pair : ScalarPair). pair.value) c.in_ok-value.ensures) c.loop-marked.invariant.values;
      usuals = usuals_more c.args.any_marked usuals c.in-Some-usual.usual term (into_iter_items c.loop-marked.marked-iterator) later _ is brings c.loop-marked.invariant.usuals;
      within = AreWithin-both usuals values c.in-Some-usual.usual c.in_ok-value.field-0.value c.loop-marked.invariant.within (c.in_ok-value.field-0.within c.in-Some-usual.usual c.in-Some-usual.is);
    }

pub loop-marked-preserved : goal.loop-marked-preserved
loop-marked-preserved c =
    let term : Bool × Valued = (c.in-Some.marked, c.in-Some.term) in
    let later = into_iter_items c.next.new.self in
    let is : into_iter_items c.loop-marked.marked-iterator ≡ term ∷ later = search rules in
    let values = c.loop-marked.values.items in
    let usuals = c.loop-marked.usuals.items in
    let lacks : c.in_ok-value.field-0.usual ≡ None = search rules in
    let none : None ≡ default_of c.args.any_marked (c.in-Some.marked, pair_of_value c.in-Some.term) =
    sym (ap (option_map members) lacks) ∙ ap (λ (pair : ScalarPair). pair.usual) c.in_ok-value.ensures in
    rw c.in_ok-push.ensures.items record {
      values = sets_more value_of values c.in_ok-value.field-0.value term (into_iter_items c.loop-marked.marked-iterator) later c.args.terms.items is (ap (λ (pair : ScalarPair). pair.value) c.in_ok-value.ensures) c.loop-marked.invariant.values;
      usuals = usuals_none c.args.any_marked usuals term (into_iter_items c.loop-marked.marked-iterator) later _ is none c.loop-marked.invariant.usuals;
      within = AreWithin-more usuals values c.in_ok-value.field-0.value c.loop-marked.invariant.within;
    }
