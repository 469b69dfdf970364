use Rattle.std.proofs.Common.{refl, sym, ap, ◌∙◌, ◌<◌, None, Some, arith}
use Rattle.std.proofs.lemmas.Bool.{false≢true}
use Rattle.cue_lattice.specs.Path.{index}
use Rattle.cue_table.specs.StepsOfCode.{step_at}
use Rattle.cue_table.specs.Tree.{row_of}
use Rattle.cue_table.specs.Inner.Walks.{found_smaller}
use Rattle.serde_json.specs.View.{view, members_view}
use Rattle.serde_json.specs.declared.value.Value.{Null}
use Rattle.cue_report.specs.Inner.Search.{least_at}
use Rattle.cue_report.proofs.DocumentMembers.{none_gathered, passed_index, passed_label, taken_label, all_gathered}
use Rattle.cue_report.proofs.Documents.{free_place, free_none, struct_shape, list_shape, only_scalars, row_is, counted_in, counted_free}
use Rattle.cue_report.proofs.Walk.{inner_smaller, none_left, label_demand_is}
use Rattle.cue_report.proofs.exporting.+walk.Goals.{elements_of-in-None, elements_of-in-Some+in_ok-document-in-Some}
use Rattle.cue_report.proofs.exporting.+walk.Goals as goal

pub document_of-returns-in_default-clause-document : goal.document_of-returns-in_default-clause-document
document_of-returns-in_default-clause-document t c = free_place c.args.branch.now None Null (sym c.in_default.ensures.row) refl free_none

pub document_of-returns-then-is_free-clause-document : goal.document_of-returns-then-is_free-clause-document
document_of-returns-then-is_free-clause-document t c =
    free_place c.args.branch.now (Some c.in-Some.row.now) Null (sym c.in-Some.ensures.row) refl (c.is_free.ensures.0 c.if-is_free.true)

pub document_of-returns-then-struct_ok-clause-document : goal.document_of-returns-then-struct_ok-clause-document
document_of-returns-then-struct_ok-clause-document t c =
    struct_shape c.args.branch.now c.in-Some.row.now c.in_ok-members.members (sym c.in-Some.ensures.row) (sym c.struct_ok.ensures ∙ c.if-struct_ok.true)
    (λ free. false≢true (sym c.if-is_free.false ∙ c.is_free.ensures.1 free)) c.in_ok-members.ensures.keys c.in_ok-members.ensures.members

pub document_of-returns-then-list_ok-clause-document : goal.document_of-returns-then-list_ok-clause-document
document_of-returns-then-list_ok-clause-document t c =
    list_shape c.args.branch.now c.in-Some.row.now c.in_ok-elements.elements (sym c.in-Some.ensures.row) (sym c.struct_ok.ensures ∙ c.if-struct_ok.false) (sym c.list_ok.ensures ∙ c.if-list_ok.true)
    c.in_ok-elements.ensures.least c.in_ok-elements.ensures.elements

pub document_of-returns-clause-document : goal.document_of-returns-clause-document
document_of-returns-clause-document t c =
    only_scalars c.args.branch.now c.in-Some.row.now (view c.in_ok-value.value) (sym c.in-Some.ensures.row) (sym c.struct_ok.ensures ∙ c.if-struct_ok.false) (sym c.list_ok.ensures ∙ c.if-list_ok.false)
    (c.in_ok-value.ensures.picked (row_is c.args.branch.now c.in-Some.row.now (sym c.in-Some.ensures.row) c.row.ensures.form))

pub elements_of-document_of-requires : goal.elements_of-document_of-requires
elements_of-document_of-requires t c =
    (let smaller = found_smaller (index c.loop-number.number) c.args.branch.now c.in-Some.child (sym c.find.ensures.branch ∙ c.in-Some.is) in omega arith, tt)

pub elements_of-loop-number-preserved : goal.elements_of-loop-number-preserved
elements_of-loop-number-preserved t c =
    let tree = c.args.branch.now in
    let values = c.loop-number.elements.items in
    let document = c.match-find.document in
    let below : c.loop-number.number < least_at (row_of tree) = omega (arith, c.least_of-number-end.ensures ∙ ap least_at c.row.ensures.row, c.loop-number-test.true) in
    elim c.match-find.branch [
      | elements_of-in-None w ↦
          counted_free tree c.loop-number.number values c.push.new.self.items document c.loop-number.invariant c.in_ok-push.ensures.items
          (sym c.find.ensures.branch ∙ w.in-None.is) w.document-is
      | elements_of-in-Some+in_ok-document-in-Some w ↦
          counted_in tree w.in-Some.child c.loop-number.number values c.push.new.self.items document w.in_ok-document-in-Some.document
          c.loop-number.invariant c.in_ok-push.ensures.items w.document-is
          (sym c.find.ensures.branch ∙ w.in-Some.is) below w.in_ok-document-in-Some.ensures.document w.in_ok-document-in-Some.ensures.no_float
    ]

pub members_of-loop-step-init : goal.members_of-loop-step-init
members_of-loop-step-init t c =
    none_gathered c.args.branch.now c.into_iter-step-iterator.result (members_view c.new-members.result.entries) c.row-row.ensures.form
    (c.into_iter-step-iterator.ensures.into_iter_gives ∙ c.children-step-items.ensures.list) (ap members_view c.new-members.ensures.empty)

pub members_of-document_of-requires : goal.members_of-document_of-requires
members_of-document_of-requires t c =
    (let smaller = inner_smaller c.args.branch.now c.loop-step.step-iterator c.next.new.self (step_at c.in-Some.step) c.in-Some.child c.loop-step.invariant.small c.in-Some.ensures.steps in omega arith, tt)

pub members_of-loop-step-preserved-in-Continue-branch-2 : goal.members_of-loop-step-preserved-in-Continue-branch-2
members_of-loop-step-preserved-in-Continue-branch-2 t c =
    let step = step_at c.in-Some.step in
    let asked = label_demand_is (row_of c.args.branch.now) _ _ step c.in-Label.name.now c.is_demanded.result _ (ap step_at c.in-Label.is) c.is_demanded.ensures c.row.ensures.row c.if-is_demanded.true in
    taken_label c.args.branch.now c.in-Some.child step c.in-Label.name.now c.as_str.result.now c.loop-step.step-iterator c.next.new.self (members_view c.loop-step.members.entries)
    (members_view c.put.new.map.entries) (view c.in_ok-document-in-Label.document) c.loop-step.invariant c.in-Some.ensures.steps (ap step_at c.in-Label.is) asked c.as_str.ensures
    c.in_ok-put-in-Label.ensures.ok c.in_ok-document-in-Label.ensures.document c.in_ok-document-in-Label.ensures.no_float

pub members_of-loop-step-preserved-else-is_demanded : goal.members_of-loop-step-preserved-else-is_demanded
members_of-loop-step-preserved-else-is_demanded t c =
    let step = step_at c.in-Some.step in
    let asked = label_demand_is (row_of c.args.branch.now) _ _ step c.in-Label.name.now c.is_demanded.result _ (ap step_at c.in-Label.is) c.is_demanded.ensures c.row.ensures.row c.if-is_demanded.false in
    passed_label c.args.branch.now c.in-Some.child step c.loop-step.step-iterator c.next.new.self (members_view c.loop-step.members.entries) c.loop-step.invariant
    c.in-Some.ensures.steps asked

pub members_of-loop-step-preserved : goal.members_of-loop-step-preserved
members_of-loop-step-preserved t c =
    passed_index c.args.branch.now c.in-Some.child (step_at c.in-Some.step) c.in-Index.field-0 c.loop-step.step-iterator c.next.new.self (members_view c.loop-step.members.entries)
    c.loop-step.invariant c.in-Some.ensures.steps (ap step_at c.in-Index.is)

pub members_of-returns-clause-keys : goal.members_of-returns-clause-keys
members_of-returns-clause-keys t c =
    all_gathered c.args.branch.now c.loop-step.step-iterator (members_view c.loop-step.members.entries) c.loop-step.invariant
    (none_left c.loop-step.step-iterator c.in-None.ensures.steps.0)
