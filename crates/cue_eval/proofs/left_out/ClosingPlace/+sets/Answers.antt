use Rattle.std.proofs.Common.{◌≡◌, ◌+◌, ◌≤◌, ◌<◌, ◌^◌, ◌∷◌, ◌++◌, [], drop, ap, subst, arith}
use Rattle.std.proofs.lemmas.List.{drop_all}
use Rattle.std.proofs.lemmas.List.Elements.{All-nil}
use Rattle.std.proofs.lemmas.Result.{IfOk-weaker}
use Rattle.cue_lattice.specs.Limits.{step_limit}
use Rattle.cue_lattice.specs.Path.{index}
use Rattle.cue_row.specs.Questions.{question_of}
use Rattle.cue_row.specs.Row.{RefusesAsked}
use Rattle.cue_row.specs.Steps.{step_of}
use Rattle.cue_table.specs.Depth.{tree_depth}
use Rattle.cue_table.specs.Refuses.{TableRefuses}
use Rattle.std.specs.BinaryHeap.{heap_items}
use Rattle.cue_eval.proofs.AddedBelow.{all_below, empty_refuses}
use Rattle.cue_eval.proofs.Bounds.{popped_few, underway, underway_on, underway_again, pushed_all}
use Rattle.cue_table.specs.Inner.Walks.{found_smaller}
use Rattle.cue_scope.proofs.Walking.{at_hand}
use Rattle.cue_eval.proofs.LabelTables.{Adding, adds_into, adds_nowhere, all_added, into_depth, added_depth, adding_all, adding_past, adding_more}
use Rattle.cue_eval.proofs.left_out.ClosingPlace.+sets.Goals as goal
use Rattle.cue_eval.proofs.left_out.ClosingPlace.+sets.Goals.{fields-in-Some+in_ok-copy+in_ok-label_sets+in_ok-push, fields-in_default}

pub fields-label_sets-requires : goal.fields-label_sets-requires
fields-label_sets-requires t c =
    let into = c.in-Some.ensures.some in
    let step = step_of c.step-item.result in
    let less = found_smaller step c.args.self.now.own c.in-Some.place.own into.own in
    let flat = into_depth step c.args.self.now.own c.in-Some.place.own into.own in
    (omega (arith, c.decreases, less), omega (arith, c.requires, flat))

pub fields-loop-step-preserved : goal.fields-loop-step-preserved
fields-loop-step-preserved t c =
    let place = c.args.self.now in
    let all = c.args.steps.now in
    let left = drop (c.loop-step.step-index + 1) all in
    let step = c.step-item.result in
    let now = subst (λ z. Adding place c.loop-step.branches.items all z) (at_hand all c.loop-step.step-index step c.loop-step-test.true c.step-item.is) c.loop-step.invariant in
    elim c.match-place_below.branch [
      | fields-in-Some+in_ok-copy+in_ok-label_sets+in_ok-push w ↦
          rw (w.branches-is, w.in_ok-push.ensures.items)
          (adding_more place c.loop-step.branches.items all left step w.in_ok-copy.field-0 w.in-Some.place w.in_ok-label_sets.field-0 now w.in_ok-copy.ensures w.in-Some.ensures.some c.requires w.in_ok-label_sets.ensures.form w.in_ok-label_sets.ensures.added)
      | fields-in_default w ↦ rw w.branches-is (adding_past place c.loop-step.branches.items all left step now w.in_default.ensures.none)
    ]

pub fields-returns : goal.fields-returns
fields-returns t c =
    let all = c.args.steps.now in
    adding_all c.args.self.now c.loop-step.branches.items all (subst (λ z. Adding c.args.self.now c.loop-step.branches.items all z) (drop_all c.loop-step.step-index all c.loop-step-test.false) c.loop-step.invariant)

pub element-label_sets-requires : goal.element-label_sets-requires
element-label_sets-requires t c =
    let into = c.in-Some.ensures.some in
    let step = index c.args.number in
    let less = found_smaller step c.args.self.now.own c.in-Some.place.own into.own in
    let flat = into_depth step c.args.self.now.own c.in-Some.place.own into.own in
    (omega (arith, c.decreases, less), omega (arith, c.requires, flat))

pub label_sets-returns-clause-added : goal.label_sets-returns-clause-added
label_sets-returns-clause-added t c =
    IfOk-weaker c.and_here.result _ _
    (λ all here. all_added c.args.self.now c.in_ok-sets.sets all c.in_ok-sets.ensures.all here)
    c.and_here.ensures.added

pub element-returns-in-None-clause-added : goal.element-returns-in-None-clause-added
element-returns-in-None-clause-added t c path question = (
  λ h. absurd (empty_refuses path question (subst (λ tree. TableRefuses RefusesAsked tree path question) c.new.ensures h)),
  λ h. absurd (adds_nowhere c.args.self.now (index c.args.number) c.in-None.ensures.none path (question_of question) h),
)

pub element-returns-in_ok-sets-in-Some-clause-depth : goal.element-returns-in_ok-sets-in-Some-clause-depth
element-returns-in_ok-sets-in-Some-clause-depth t c =
    let into = c.in-Some.ensures.some in
    let flat = into_depth (index c.args.number) c.args.self.now.own c.in-Some.place.own into.own in
    let shallow = added_depth c.in-Some.place c.in_ok-sets-in-Some.sets c.in_ok-sets-in-Some.ensures.form c.in_ok-sets-in-Some.ensures.added in
    omega (arith, c.requires, flat, shallow)

pub element-returns-in_ok-sets-in-Some-clause-added : goal.element-returns-in_ok-sets-in-Some-clause-added
element-returns-in_ok-sets-in-Some-clause-added t c path question =
    let says = c.in_ok-sets-in-Some.ensures.added path question in
    let into = adds_into c.args.self.now (index c.args.number) c.in-Some.place c.in-Some.ensures.some path (question_of question) in
    (λ h. into.0 (says.0 h), λ h. says.1 (into.1 h))

pub and_elements-returns-clause-all : goal.and_elements-returns-clause-all
and_elements-returns-clause-all t c =
    all_below c.args.self.now c.args.fields.items c.in_ok-stretches.stretches.items c.in_ok-all.all c.in_ok-of_elements.field-0 c.meet_with.new.self c.requires.fields c.in_ok-stretches.ensures.added c.in_ok-all.ensures.refused c.in_ok-of_elements.ensures.refused c.in_ok-meet_with.ensures.ok

pub stretches-loop-first-init : goal.stretches-loop-first-init
stretches-loop-first-init t c =
    let last = c.in-Some.last in
    let sets = c.in_ok-element.field-0 in
    let popped = c.in-Some.ensures in
    let heap = c.in_ok-bounds.ensures.heap in
    let few = popped_few last (heap_items c.in_ok-bounds.bounds) (heap_items c.pop.new.self) c.in_ok-bounds.ensures.few popped.permutation in
    let one : c.push.new.self.items ≡ (last, sets) ∷ [] = rw c.in_ok-push.ensures.items (ap (λ xs. xs ++ (last, sets) ∷ []) c.new-stretches.ensures.items) in
    record {
      underway = underway c.args.self.now c.push.new.self.items sets (heap_items c.in_ok-bounds.bounds) (heap_items c.pop.new.self) last one c.in_ok-element.ensures.added c.in_ok-bounds.ensures.alike c.in_ok-bounds.ensures.first popped.permutation (popped.below_top heap);
      heap = (popped.heap_order heap).0;
      left = few.1;
      few = pushed_all (λ one. one.0 ≤ 2 ^ 32) c.new-stretches.result.items c.push.new.self.items (last, sets) c.in_ok-push.ensures.items (rw c.new-stretches.ensures.items (All-nil (λ one. one.0 ≤ 2 ^ 32))) few.0;
      deep = pushed_all (λ one. tree_depth one.1 < step_limit) c.new-stretches.result.items c.push.new.self.items (last, sets) c.in_ok-push.ensures.items (rw c.new-stretches.ensures.items (All-nil (λ one. tree_depth one.1 < step_limit))) c.in_ok-element.ensures.depth;
    }

pub stretches-loop-first-preserved-then-first-from : goal.stretches-loop-first-preserved-then-first-from
stretches-loop-first-preserved-then-first-from t c =
    let loop = c.loop-first in
    let first = c.in-Some-pop.first in
    let sets = c.in_ok-element-2.field-0 in
    let popped = c.in-Some-pop.ensures in
    let heap = loop.invariant.heap in
    let few = popped_few first (heap_items loop.bounds) (heap_items c.pop-in-loop-first.new.self) loop.invariant.left popped.permutation in
    let pushed = c.in_ok-push-2.ensures.items in
    record {
      underway = underway_on c.args.self.now loop.from first loop.stretches.items c.push-then-first-from.new.self.items sets (heap_items loop.bounds) (heap_items c.pop-in-loop-first.new.self) loop.invariant.underway popped.permutation (popped.below_top heap) c.if-first-from.true c.in_ok-element-2.ensures.added pushed;
      heap = (popped.heap_order heap).0;
      left = few.1;
      few = pushed_all (λ one. one.0 ≤ 2 ^ 32) loop.stretches.items c.push-then-first-from.new.self.items (first, sets) pushed loop.invariant.few few.0;
      deep = pushed_all (λ one. tree_depth one.1 < step_limit) loop.stretches.items c.push-then-first-from.new.self.items (first, sets) pushed loop.invariant.deep c.in_ok-element-2.ensures.depth;
    }

pub stretches-loop-first-preserved : goal.stretches-loop-first-preserved
stretches-loop-first-preserved t c =
    let loop = c.loop-first in
    let popped = c.in-Some-pop.ensures in
    record {
      underway = underway_again c.args.self.now loop.from c.in-Some-pop.first loop.stretches.items (heap_items loop.bounds) (heap_items c.pop-in-loop-first.new.self) loop.invariant.underway popped.permutation c.if-first-from.false;
      heap = (popped.heap_order loop.invariant.heap).0;
      left = (popped_few c.in-Some-pop.first (heap_items loop.bounds) (heap_items c.pop-in-loop-first.new.self) loop.invariant.left popped.permutation).1;
      few = loop.invariant.few;
      deep = loop.invariant.deep;
    }
