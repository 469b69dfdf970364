use Rattle.std.proofs.Common.{◌++◌, ◌∙◌, [], rules, List, sym, subst, arith}
use Rattle.std.specs.Vec.Iter.{into_iter_items}
use Rattle.std.proofs.lemmas.List.Elements.{All-nil, All-rest, All-same, All-append}
use Rattle.std.proofs.lemmas.Result.{IfOk-weaker}
use Rattle.cue_lattice.specs.OneOf.{OneOf}
use Rattle.cue_table.specs.Form.{IsRowKept}
use Rattle.cue_table.specs.Inner.Child.{Child}
use Rattle.cue_table.specs.Inner.Given.{IsBranch}
use Rattle.cue_table.specs.Refuses.{RowRefuses, TableRefuses}
use Rattle.cue_table.proofs.AtOneStep.{own_branches, plain_form, plain_place, put_all, put_below, put_beside, put_none}
use Rattle.cue_table.proofs.one_step.unify_places.Goals as goal

pub loop-place-init : goal.loop-place-init
loop-place-init g c =
    let r = g.R.Narrow.refuses in
    let P = IsBranch r g.R.Narrow.is_value in
    let none = c.in_ok-below.ensures.items in
    let all = c.into_iter-place-iterator.ensures.into_iter_gives.0 in
    let row = c.in_ok-row.row in
    let first = subst (λ (cs : List (Child g.row.R.Denot)). (question : g.row.R-Question.Denot) → RowRefuses r row question → OneOf (λ place. TableRefuses r place.node [] question) cs) c.deref.ensures.value c.in_ok-row.ensures in
    record {
      made = All-same P c.in_ok-below.below.items [] none (All-nil P);
      left = rw all c.requires;
      all = put_none r row c.in_ok-below.below.items c.new-others.result.items (into_iter_items c.into_iter-place-iterator.result) c.args.places.items none c.new-others.ensures.items all first;
    }

pub loop-place-preserved-in_ok-push_below : goal.loop-place-preserved-in_ok-push_below
loop-place-preserved-in_ok-push_below g c =
    let r = g.R.Narrow.refuses in
    let v = g.R.Narrow.is_value in
    let P = IsBranch r v in
    let place = c.in-Some.place in
    let front = c.loop-place.below.items in
    let more = c.push_below.new.others.items in
    let left = into_iter_items c.next.new.self in
    let first = c.in-Some.ensures.steps.0 in
    let one = (rw first at c.loop-place.invariant.left) 0 place (omega arith) in
    let own = c.in_ok-push_below.ensures in
    let just = c.if-has_just.ensures (search rules) in
    let row = c.loop-place.row-1 in
    let is = sym c.in_ok-node.ensures ∙ plain_place row own.0 c.in_ok-node.node just.0 just.1 own.1 in
    let form = plain_form r v row own.0 place.node is one.1 one.2 in
    record {
      made = All-same P more (front ++ own.0) own.2 (All-append P front own.0 c.loop-place.invariant.made (own_branches r v own.0 form.0 form.1));
      left = All-rest P place left (into_iter_items c.loop-place.place-iterator) first c.loop-place.invariant.left;
      all = put_below r (IsRowKept r v) row front more own.0 c.loop-place.others.items (into_iter_items c.loop-place.place-iterator) left c.args.places.items place first is form.0 own.2 c.loop-place.invariant.all;
    }

pub loop-place-preserved : goal.loop-place-preserved
loop-place-preserved g c =
    let r = g.R.Narrow.refuses in
    let P = IsBranch r g.R.Narrow.is_value in
    let left = into_iter_items c.next.new.self in
    let first = c.in-Some.ensures.steps.0 in
    record {
      made = c.loop-place.invariant.made;
      left = All-rest P c.in-Some.place left (into_iter_items c.loop-place.place-iterator) first c.loop-place.invariant.left;
      all = put_beside r c.loop-place.row-1 c.loop-place.below.items c.loop-place.others.items c.push.new.self.items c.of_root.result (into_iter_items c.loop-place.place-iterator) left c.args.places.items c.in-Some.place
          first (sym c.in_ok-node.ensures ∙ sym c.of_root.ensures) c.in_ok-push.ensures.items c.loop-place.invariant.all;
    }

pub returns-clause-refused : goal.returns-clause-refused
returns-clause-refused g c =
    let left = into_iter_items c.loop-place.place-iterator in
    IfOk-weaker c.meet_row.result _ _
    (λ met last. put_all g.R.Narrow.refuses c.loop-place.row-1 c.loop-place.below.items c.loop-place.others.items left c.args.places.items c.in_ok-met.met c.in_ok-unify_all.field-0 c.meet_with.new.self met
    (sym c.loop-place.place-iterator.rest.ok.0 ∙ c.in-None.ensures.steps.0) c.in_ok-met.ensures.refused c.in_ok-unify_all.ensures.refused c.in_ok-meet_with.ensures.ok last c.loop-place.invariant.all) c.meet_row.ensures.refused
