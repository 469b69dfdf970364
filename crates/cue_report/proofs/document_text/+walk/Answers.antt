use Rattle.std.proofs.Common.{refl, sym, ap, ◌∙◌, ◌<◌, ◌≤◌, ◌+◌, subst, None, Some, arith}
use Rattle.std.proofs.lemmas.Bool.{false≢true}
use Rattle.cue_lattice.specs.Path.{label, index}
use Rattle.cue_table.specs.StepsOfCode.{step_at}
use Rattle.cue_table.specs.Tree.{row_of}
use Rattle.cue_table.specs.Inner.Walks.{found_smaller}
use Rattle.serde_json.specs.Data.{null, no_items, no_members}
use Rattle.cue_report.specs.Inner.Search.{least_at}
use Rattle.cue_report.specs.Stream.{flow_of}
use Rattle.cue_report.proofs.Breaking.{array_begun, item_begun, items_begun, member_begun, members_begun, no_items_begun, no_members_begun, none_begun, object_begun}
use Rattle.cue_report.proofs.Descent.{Told}
use Rattle.cue_report.proofs.DocumentMembers.{none_gathered, passed_index, passed_label, all_gathered}
use Rattle.cue_report.proofs.Documents.{free_null, free_none, row_is, none_counted}
use Rattle.cue_report.proofs.Walk.{inner_smaller, none_left, label_demand_is}
use Rattle.cue_report.proofs.Writing.{AreItemsSoFar, on_ok, on_err, on_any, adds_object, adds_array, adds_scalar, ends_items, ends_members, next_item, next_null, next_member}
use Rattle.cue_report.proofs.document_text.+walk.Goals.{write_elements-in-None+in_ok-token-in-None, write_elements-in-Some+in_ok-write_document-in-Some}
use Rattle.cue_report.proofs.document_text.+walk.Goals as goal

pub write_document-returns-in_err-token-clause-begun : goal.write_document-returns-in_err-token-clause-begun
write_document-returns-in_err-token-clause-begun g t c = on_any _ (none_begun (Told c.args.branch.now) _ _ c.in_err-token.ensures.begun)

pub write_document-returns-in_default-clause-told : goal.write_document-returns-in_default-clause-told
write_document-returns-in_default-clause-told g t c =
    (null, c.in_ok-token.ensures.told, (free_null c.args.branch.now None (sym c.in_default.ensures.row) free_none, refl))

pub write_document-returns-in_err-token-2-clause-begun : goal.write_document-returns-in_err-token-2-clause-begun
write_document-returns-in_err-token-2-clause-begun g t c = on_any _ (none_begun (Told c.args.branch.now) _ _ c.in_err-token-2.ensures.begun)

pub write_document-returns-then-is_free-clause-told : goal.write_document-returns-then-is_free-clause-told
write_document-returns-then-is_free-clause-told g t c =
    (null, c.in_ok-token-2.ensures.told, (free_null c.args.branch.now (Some c.in-Some.row.now) (sym c.in-Some.ensures.row) (c.is_free.ensures.0 c.if-is_free.true), refl))

pub write_document-returns-then-struct_ok-clause-told : goal.write_document-returns-then-struct_ok-clause-told
write_document-returns-then-struct_ok-clause-told g t c =
    on_ok c.write_members.result
    (adds_object c.args.branch.now c.in-Some.row.now _ _ (sym c.in-Some.ensures.row) (sym c.struct_ok.ensures ∙ c.if-struct_ok.true)
    (λ free. false≢true (sym c.if-is_free.false ∙ c.is_free.ensures.1 free))) c.write_members.ensures.told

pub write_document-returns-then-struct_ok-clause-begun : goal.write_document-returns-then-struct_ok-clause-begun
write_document-returns-then-struct_ok-clause-begun g t c =
    on_err c.write_members.result
    (object_begun c.args.branch.now c.in-Some.row.now _ _ (sym c.in-Some.ensures.row) (sym c.struct_ok.ensures ∙ c.if-struct_ok.true)
    (λ free. false≢true (sym c.if-is_free.false ∙ c.is_free.ensures.1 free))) c.write_members.ensures.begun

pub write_document-returns-then-list_ok-clause-told : goal.write_document-returns-then-list_ok-clause-told
write_document-returns-then-list_ok-clause-told g t c =
    on_ok c.write_elements.result
    (adds_array c.args.branch.now c.in-Some.row.now _ _ (sym c.in-Some.ensures.row) (sym c.struct_ok.ensures ∙ c.if-struct_ok.false) (sym c.list_ok.ensures ∙ c.if-list_ok.true)) c.write_elements.ensures.told

pub write_document-returns-then-list_ok-clause-begun : goal.write_document-returns-then-list_ok-clause-begun
write_document-returns-then-list_ok-clause-begun g t c =
    on_err c.write_elements.result
    (array_begun c.args.branch.now c.in-Some.row.now _ _ (sym c.in-Some.ensures.row) (sym c.struct_ok.ensures ∙ c.if-struct_ok.false) (sym c.list_ok.ensures ∙ c.if-list_ok.true)) c.write_elements.ensures.begun

pub write_document-returns-clause-told : goal.write_document-returns-clause-told
write_document-returns-clause-told g t c =
    on_ok c.write_scalar.result
    (adds_scalar c.args.branch.now c.in-Some.row.now _ _ (sym c.in-Some.ensures.row) (sym c.struct_ok.ensures ∙ c.if-struct_ok.false) (sym c.list_ok.ensures ∙ c.if-list_ok.false))
    (c.write_scalar.ensures.told (row_is c.args.branch.now c.in-Some.row.now (sym c.in-Some.ensures.row) c.row.ensures.form))

pub write_document-returns-clause-begun : goal.write_document-returns-clause-begun
write_document-returns-clause-begun g t c = on_err c.write_scalar.result (none_begun (Told c.args.branch.now) _ _) c.write_scalar.ensures.begun

pub write_elements-returns-in_err-token-clause-begun : goal.write_elements-returns-in_err-token-clause-begun
write_elements-returns-in_err-token-clause-begun g t c = on_any _ (no_items_begun c.args.branch.now _ _ _ c.in_err-token.ensures.begun)

pub write_elements-loop-number-init : goal.write_elements-loop-number-init
write_elements-loop-number-init g t c = (no_items, c.in_ok-token.ensures.told, none_counted c.args.branch.now no_items refl)

pub write_elements-write_document-requires : goal.write_elements-write_document-requires
write_elements-write_document-requires g t c κs within =
    let smaller = found_smaller (index c.loop-number.number) c.args.branch.now c.in-Some.child (sym c.find.ensures.branch ∙ c.in-Some.is) in
    (omega (arith, c.decreases, smaller), (within.0, within.1))

pub write_elements-returns-in_err-token-in-None-clause-begun : goal.write_elements-returns-in_err-token-in-None-clause-begun
write_elements-returns-in_err-token-in-None-clause-begun g t c =
    let below : c.loop-number.number ≤ least_at (row_of c.args.branch.now) = omega (arith, c.least_of-number-end.ensures ∙ ap least_at c.row.ensures.row, c.loop-number-test.true) in
    on_any _ (items_begun c.args.branch.now c.loop-number.number _ _ _ c.loop-number.invariant below c.in_err-token-in-None.ensures.begun)

pub write_elements-returns-in_err-write_document-in-Some-clause-begun : goal.write_elements-returns-in_err-write_document-in-Some-clause-begun
write_elements-returns-in_err-write_document-in-Some-clause-begun g t c =
    let below : c.loop-number.number < least_at (row_of c.args.branch.now) = omega (arith, c.least_of-number-end.ensures ∙ ap least_at c.row.ensures.row, c.loop-number-test.true) in
    on_any _ (item_begun c.args.branch.now c.in-Some.child c.loop-number.number _ _ _ c.loop-number.invariant (sym c.find.ensures.branch ∙ c.in-Some.is) below c.in_err-write_document-in-Some.ensures.begun)

pub write_elements-loop-number-preserved : goal.write_elements-loop-number-preserved
write_elements-loop-number-preserved g t c =
    let tree = c.args.branch.now in
    let so_far = c.loop-number.invariant in
    let start = flow_of (g.S.TextSink.taken c.args.out.now) c.args.stream.now in
    let below : c.loop-number.number < least_at (row_of tree) = omega (arith, c.least_of-number-end.ensures ∙ ap least_at c.row.ensures.row, c.loop-number-test.true) in
    elim c.match-find.branch [
      | write_elements-in-None+in_ok-token-in-None w ↦
          subst (AreItemsSoFar tree (c.loop-number.number + 1) start) (λ i. flow_of (g.S.TextSink.taken (sym w.out-is i)) (sym w.stream-is i))
          (next_null tree c.loop-number.number start _ _ so_far (sym c.find.ensures.branch ∙ w.in-None.is) w.in_ok-token-in-None.ensures.told)
      | write_elements-in-Some+in_ok-write_document-in-Some w ↦
          subst (AreItemsSoFar tree (c.loop-number.number + 1) start) (λ i. flow_of (g.S.TextSink.taken (sym w.out-is i)) (sym w.stream-is i))
          (next_item tree w.in-Some.child c.loop-number.number start _ _ so_far (sym c.find.ensures.branch ∙ w.in-Some.is) below w.in_ok-write_document-in-Some.ensures.told)
    ]

pub write_elements-returns-in_err-token-2-clause-begun : goal.write_elements-returns-in_err-token-2-clause-begun
write_elements-returns-in_err-token-2-clause-begun g t c =
    let within : c.loop-number.number ≤ least_at (row_of c.args.branch.now) = omega (arith, c.loop-number.auto.number-end, c.least_of-number-end.ensures ∙ ap least_at c.row.ensures.row) in
    on_any _ (items_begun c.args.branch.now c.loop-number.number _ _ _ c.loop-number.invariant within c.in_err-token-2.ensures.begun)

pub write_elements-returns-clause-told : goal.write_elements-returns-clause-told
write_elements-returns-clause-told g t c =
    let so_far = c.loop-number.invariant in
    record {
      items = so_far.0;
      adds = ends_items _ _ _ so_far.0 so_far.1 c.in_ok-token-2.ensures.told;
      length = omega (arith, so_far.2.length, c.loop-number-test.false, c.loop-number.auto.number-end, c.least_of-number-end.ensures ∙ ap least_at c.row.ensures.row);
      documents = so_far.2.elements;
      no_float = so_far.2.no_float;
    }

pub write_members-returns-in_err-token-clause-begun : goal.write_members-returns-in_err-token-clause-begun
write_members-returns-in_err-token-clause-begun g t c = on_any _ (no_members_begun c.args.branch.now _ _ c.in_err-token.ensures.begun)

pub write_members-loop-step-init : goal.write_members-loop-step-init
write_members-loop-step-init g t c = (
  no_members,
  c.in_ok-token.ensures.told,
  none_gathered c.args.branch.now c.into_iter-step-iterator.result no_members c.row-row.ensures.form
      (c.into_iter-step-iterator.ensures.into_iter_gives ∙ c.children-step-items.ensures.list) refl,
)

pub write_members-returns-in_err-token-in-Label-clause-begun : goal.write_members-returns-in_err-token-in-Label-clause-begun
write_members-returns-in_err-token-in-Label-clause-begun g t c =
    on_any _ (members_begun c.args.branch.now c.loop-step.step-iterator _ _ _ c.loop-step.invariant c.in_err-token-in-Label.ensures.begun)

pub write_members-write_document-requires : goal.write_members-write_document-requires
write_members-write_document-requires g t c κs within =
    let smaller = inner_smaller c.args.branch.now c.loop-step.step-iterator c.next.new.self (step_at c.in-Some.step) c.in-Some.child c.loop-step.invariant.2.small c.in-Some.ensures.steps in
    (omega (arith, c.decreases, smaller), (within.0, within.1))

pub write_members-returns-in_err-write_document-in-Label-clause-begun : goal.write_members-returns-in_err-write_document-in-Label-clause-begun
write_members-returns-in_err-write_document-in-Label-clause-begun g t c =
    let step = step_at c.in-Some.step in
    let asked = label_demand_is (row_of c.args.branch.now) _ _ step c.in-Label.name.now c.is_demanded.result _ (ap step_at c.in-Label.is) c.is_demanded.ensures c.row.ensures.row c.if-is_demanded.true in
    on_any _ (member_begun c.args.branch.now c.in-Some.child step c.as_str.result.now c.loop-step.step-iterator c.next.new.self _ _ _ _
    c.loop-step.invariant c.in-Some.ensures.steps (ap step_at c.in-Label.is ∙ ap label (sym c.as_str.ensures)) asked c.in_ok-token-in-Label.ensures.told
    c.in_err-write_document-in-Label.ensures.begun)

pub write_members-loop-step-preserved-in-Continue-branch-3 : goal.write_members-loop-step-preserved-in-Continue-branch-3
write_members-loop-step-preserved-in-Continue-branch-3 g t c =
    let step = step_at c.in-Some.step in
    let asked = label_demand_is (row_of c.args.branch.now) _ _ step c.in-Label.name.now c.is_demanded.result _ (ap step_at c.in-Label.is) c.is_demanded.ensures c.row.ensures.row c.if-is_demanded.true in
    next_member c.args.branch.now c.in-Some.child step c.as_str.result.now c.loop-step.step-iterator c.next.new.self _ _ _ _
    c.loop-step.invariant c.in-Some.ensures.steps (ap step_at c.in-Label.is ∙ ap label (sym c.as_str.ensures)) asked c.in_ok-token-in-Label.ensures.told
    c.in_ok-write_document-in-Label.ensures.told

pub write_members-loop-step-preserved-else-is_demanded : goal.write_members-loop-step-preserved-else-is_demanded
write_members-loop-step-preserved-else-is_demanded g t c =
    let step = step_at c.in-Some.step in
    let asked = label_demand_is (row_of c.args.branch.now) _ _ step c.in-Label.name.now c.is_demanded.result _ (ap step_at c.in-Label.is) c.is_demanded.ensures c.row.ensures.row c.if-is_demanded.false in
    let so_far = c.loop-step.invariant in
    (so_far.0, so_far.1, passed_label c.args.branch.now c.in-Some.child step c.loop-step.step-iterator c.next.new.self so_far.0 so_far.2 c.in-Some.ensures.steps asked)

pub write_members-loop-step-preserved : goal.write_members-loop-step-preserved
write_members-loop-step-preserved g t c =
    let so_far = c.loop-step.invariant in (
      so_far.0,
      so_far.1,
      passed_index c.args.branch.now c.in-Some.child (step_at c.in-Some.step) c.in-Index.field-0 c.loop-step.step-iterator c.next.new.self so_far.0 so_far.2
          c.in-Some.ensures.steps (ap step_at c.in-Index.is),
    )

pub write_members-returns-in_err-token-2-clause-begun : goal.write_members-returns-in_err-token-2-clause-begun
write_members-returns-in_err-token-2-clause-begun g t c =
    on_any _ (members_begun c.args.branch.now c.loop-step.step-iterator _ _ _ c.loop-step.invariant c.in_err-token-2.ensures.begun)

pub write_members-returns-clause-told : goal.write_members-returns-clause-told
write_members-returns-clause-told g t c =
    let so_far = c.loop-step.invariant in
    record {
      members = so_far.0;
      adds = ends_members _ _ _ so_far.0 so_far.1 c.in_ok-token-2.ensures.told;
      keys_are = all_gathered c.args.branch.now c.loop-step.step-iterator so_far.0 so_far.2 (none_left c.loop-step.step-iterator c.in-None.ensures.steps.0);
      documents = so_far.2.documents;
      no_float = so_far.2.no_float;
    }
