use Rattle.std.proofs.Common.{◌∙◌, sym, subst, inl, refl, arith}
use Rattle.std.specs.Cmp.Lexicographic.{slice_cmp}
use Rattle.std.specs.List.Sorted.{IsStrictlySortedBy}
use Rattle.std.specs.Ordering.{nat_cmp}
use Rattle.std.specs.Vec.Iter.{into_iter_items}
use Rattle.std.proofs.lemmas.Result.{IfOk-weaker, err_from_is_err_and}
use Rattle.cue_lattice.specs.Question.{SameAnswers}
use Rattle.cue_table.specs.Tree.{Tree}
use Rattle.cue_row.specs.declared.parts.RowParts.{RowParts as Row}
use Rattle.cue_policies.specs.Inner.Answers.{PolicyTreeRefusals}
use Rattle.cue_policies.specs.Inner.Parts.{IsFit, IsIn, PartsRefuse}
use Rattle.cue_policies.proofs.Calls.{list_none, are_found, so_far_start, so_far_more, so_far_all, first_declared, declared_has, field_made, lone_answers}
use Rattle.cue_policies.proofs.Sizes.{apart_start, apart_more, counted_more, field_too_large, fields_rows, if_err_weaker, more_rows, view_error}
use Rattle.cue_policies.proofs.Walking.{depth_below, sound_below}
use Rattle.cue_policies.proofs.view.+view_of.Goals as goal

pub loop-label-init : goal.loop-label-init
loop-label-init t c =
    let all = c.into_iter-label-iterator.ensures.into_iter_gives.0 in
    let left = into_iter_items c.into_iter-label-iterator.result in
    record {
      fields = so_far_start c.args.parts.now c.in_ok-labels.labels.items left c.in_ok-fields.fields.items c.requires.sound c.in_ok-labels.ensures.labels all c.in_ok-fields.ensures.items;
      apart = apart_start left c.in_ok-fields.fields.items (subst (IsStrictlySortedBy (slice_cmp nat_cmp)) (sym all) c.in_ok-labels.ensures.order) c.in_ok-fields.ensures.items;
      counted = omega arith;
      within = omega arith;
    }

pub view_of-requires : goal.view_of-requires
view_of-requires t c =
    let parts = c.args.parts.now in
    let found = c.deref-in-loop-label.result.now in
    let patterns = c.in_ok-patterns.patterns.items in
    let l = c.in-Some-label.label in
    let are = are_found parts found c.in_ok-below.below.items patterns c.deref.result.now l c.deref-in-loop-label.ensures.value c.deref.ensures.value c.in_ok-below.ensures in
    let declared = first_declared parts (into_iter_items c.loop-label.label-iterator) (into_iter_items c.next.new.self) l c.loop-label.fields.items c.in-Some-label.ensures.steps.0 c.loop-label.invariant.fields in
    let low = depth_below parts found patterns l are (declared_has parts l declared) in
    (omega (arith, c.decreases, low), (sound_below parts found patterns l are c.requires.sound, omega (arith, low, c.requires.depth)))

pub loop-label-preserved : goal.loop-label-preserved
loop-label-preserved t c =
    let parts = c.args.parts.now in
    let found = c.deref-in-loop-label.result.now in
    let patterns = c.in_ok-patterns.patterns.items in
    let l = c.in-Some-label.label in
    let are = are_found parts found c.in_ok-below.below.items patterns c.deref.result.now l c.deref-in-loop-label.ensures.value c.deref.ensures.value c.in_ok-below.ensures in
    let cut = c.in-Some-label.ensures.steps.0 in
    let left = into_iter_items c.loop-label.label-iterator in
    let next = into_iter_items c.next.new.self in
    let fields = c.loop-label.fields.items in
    let new = c.push.new.self.items in
    let table = c.in_ok-field.field.table in
    let declared = first_declared parts left next l fields cut c.loop-label.invariant.fields in
    let field = field_made parts found patterns l table c.requires.sound c.requires.depth c.in_ok-patterns.ensures.labels are declared c.in_ok-field.ensures.form c.in_ok-field.ensures.refused c.in_ok-field.ensures.fit in
    record {
      fields = so_far_more parts left next l fields new table cut c.in_ok-push.ensures.items field c.loop-label.invariant.fields;
      apart = apart_more left next l fields new table cut c.in_ok-push.ensures.items c.loop-label.invariant.apart;
      counted = counted_more l fields new table c.loop-label.rows c.in_ok-field.field.rows c.in_ok-push.ensures.items c.loop-label.invariant.counted c.in_ok-field.ensures.rows.0;
      within = omega (arith, c.loop-label.invariant.within, c.in_ok-field.ensures.rows.1);
    }

pub join_parts-requires-clause-fields : goal.join_parts-requires-clause-fields
join_parts-requires-clause-fields t c =
    so_far_all c.args.parts.now (into_iter_items c.loop-label.label-iterator) c.loop-label.fields.items
    (list_none (into_iter_items c.loop-label.label-iterator) (sym c.loop-label.label-iterator.rest.ok.0 ∙ c.in-None.ensures.steps.0)) c.loop-label.invariant.fields

pub overflow_sub-most : goal.overflow_sub-most
overflow_sub-most t c = omega (arith, c.loop-label.invariant.within)

pub returns-in-Some-clause-refused : goal.returns-in-Some-clause-refused
returns-in-Some-clause-refused t c =
    IfOk-weaker c.count_rows.result _ _ (λ view is. lone_answers c.args.parts.now c.in-Some.part.now view.table c.in-Some.ensures.0 c.in-Some.ensures.1 (is ∙ c.in_ok-to_table.ensures)) c.count_rows.ensures.table

pub returns-in-Some-clause-large : goal.returns-in-Some-clause-large
returns-in-Some-clause-large t c =
    let table = c.in_ok-to_table.field-0 in
    let same = lone_answers c.args.parts.now c.in-Some.part.now table c.in-Some.ensures.0 c.in-Some.ensures.1 c.in_ok-to_table.ensures in
    if_err_weaker c.count_rows.result _ _ (λ e h. view_error e (λ more. more_rows c.args.most table (PartsRefuse c.args.parts.now) more.0 same more.1) h) c.count_rows.ensures.large

pub returns-in_err-field-clause-large : goal.returns-in_err-field-clause-large
returns-in_err-field-clause-large t c =
    let parts = c.args.parts.now in
    let found = c.deref-in-loop-label.result.now in
    let patterns = c.in_ok-patterns.patterns.items in
    let l = c.in-Some-label.label in
    let are = are_found parts found c.in_ok-below.below.items patterns c.deref.result.now l c.deref-in-loop-label.ensures.value c.deref.ensures.value c.in_ok-below.ensures in
    let cut = c.in-Some-label.ensures.steps.0 in
    let left = into_iter_items c.loop-label.label-iterator in
    let next = into_iter_items c.next.new.self in
    let fields = c.loop-label.fields.items in
    let declared = first_declared parts left next l fields cut c.loop-label.invariant.fields in
    let p = err_from_is_err_and c.from_residual-in_err-field.result c.from_residual-in_err-field.ensures.1 in
    rw (p.1, p.2)
    (view_error _ (λ more. field_too_large parts found patterns l left fields c.loop-label.rows c.args.most c.in_ok-patterns.ensures.labels are declared c.loop-label.invariant.fields.made c.loop-label.invariant.apart (subst (IsIn l) (sym cut) (inl refl)) c.loop-label.invariant.counted c.loop-label.invariant.within more)
    c.in_err-field.ensures.large)

pub returns-then-rows-eq0-clause-refused : goal.returns-then-rows-eq0-clause-refused
returns-then-rows-eq0-clause-refused t c =
    IfOk-weaker c.count_rows-then-rows-eq0.result _ _ (λ view is. subst (λ (table : Tree Row). SameAnswers (PolicyTreeRefusals table) (PartsRefuse c.args.parts.now)) (sym is) c.in_ok-table.ensures.refused) c.count_rows-then-rows-eq0.ensures.table

pub returns-then-rows-eq0-clause-fit : goal.returns-then-rows-eq0-clause-fit
returns-then-rows-eq0-clause-fit t c =
    IfOk-weaker c.count_rows-then-rows-eq0.result _ _ (λ view is top limited. subst (λ (table : Tree Row). IsFit top table) (sym is) (c.in_ok-table.ensures.fit top limited)) c.count_rows-then-rows-eq0.ensures.table

pub returns-then-rows-eq0-clause-large : goal.returns-then-rows-eq0-clause-large
returns-then-rows-eq0-clause-large t c =
    if_err_weaker c.count_rows-then-rows-eq0.result _ _ (λ e h. view_error e (λ more. more_rows c.args.most c.in_ok-table.table (PartsRefuse c.args.parts.now) more.0 c.in_ok-table.ensures.refused more.1) h) c.count_rows-then-rows-eq0.ensures.large

pub returns-clause-rows : goal.returns-clause-rows
returns-clause-rows t c =
    let fields = c.loop-label.fields.items in
    let few = fields_rows c.args.parts.now c.in_ok-table.table c.in_ok-table.ensures.form c.in_ok-table.ensures.refused fields c.loop-label.invariant.fields.made c.loop-label.invariant.apart.once in
    (omega (arith, few, c.loop-label.invariant.counted), c.loop-label.invariant.within)
