use Rattle.std.proofs.Common.{◌≡◌, ◌+◌, ◌-◌, min, map, refl, sym, ap, subst, ◌∙◌, arith}
use Rattle.std.specs.Option.{option_map}
use Rattle.cue_lattice.specs.Path.{label}
use Rattle.cue_table.specs.Spans.{branches_of_spans, branches_of_span}
use Rattle.cue_table.specs.StepsOfCode.{step_at, span_of}
use Rattle.cue_table.specs.declared.step_ref.StepRef.TheVariants.{Label, Index}
use Rattle.cue_table.specs.Tree.{none, row_of}
use Rattle.cue_report.specs.Inner.GapSearch.{WritesGapsWhere, WritesGapsPrefixWhere, IsGapHere, IsGapIn, IsGapBelow, gaps_above, free_before, free_elements}
use Rattle.cue_report.specs.Inner.Search.{least_at}
use Rattle.cue_report.specs.Inner.Telling.{WritesPieces, WritesPiecesPrefix}
use Rattle.cue_report.proofs.GapFronts.{fronts_none, here_begun}
use Rattle.cue_report.proofs.GapRests.{none_among, element_added, same_elements, all_among, nothing_onward}
use Rattle.cue_report.proofs.GapRuns.{field_added, field_unasked, run_added}
use Rattle.cue_report.proofs.GapSteps.{IsAlong, started, walked_span, begun_free, begun_span, walked_rest, begun_last, begun_rest, begun_among, begun_element, begun_run, begun_field, begun_alike}
use Rattle.cue_report.proofs.Walk.{popped, pushed_on, span_smaller, is_ended, demand_is}
use Rattle.cue_report.proofs.Silent.{any_among}
use Rattle.cue_report.proofs.Writing.{on_any}
use Rattle.cue_report.proofs.gap.GapSearch.+walk.Goals.{visit_span-then-is_demanded+in_ok-enter-in-Label+in_ok-visit-in-Label, visit_span-else-is_demanded}
use Rattle.cue_report.proofs.gap.GapSearch.+walk.Goals as goal

-- ---- a place
pub visit-loop-span-init : goal.visit-loop-span-init
visit-loop-span-init g t c =
    let tally = g.S.GapSink.tally in
    let piece = g.S.GapSink.piece in
    let steps = c.args.self.now.steps.items in
    let start = tally c.args.self.now.sink c.args.out.now in
    let now = tally c.look_at.new.sink c.look_at.new.out in
    let all = ap branches_of_spans c.into_iter-span-iterator.ensures.into_iter_gives ∙ c.spans-span-items.ensures.list in
    let here = subst (λ row. WritesGapsWhere piece (IsGapHere c.args.not_allowed row) (map step_at steps) start now) c.row-row.ensures.row
    (subst (λ held. WritesGapsWhere piece (IsGapHere c.args.not_allowed (option_map (λ row. row.now) c.row-row.result)) (map step_at held) start now) c.deref.ensures.value c.in_ok-look_at.ensures.gaps) in
    subst (λ rest. IsAlong piece c.args.not_allowed c.args.branch.now rest 0 start now steps steps) (sym all)
    (started piece c.args.not_allowed c.args.branch.now start now steps steps c.row-row.ensures.form refl here)

pub visit-visit_span-requires : goal.visit-visit_span-requires
visit-visit_span-requires g t c κs within =
    let smaller = span_smaller c.args.branch.now c.loop-span.span-iterator c.next.new.self (span_of c.in-Some.span) c.in-Some.child c.loop-span.invariant.over.small c.in-Some.ensures.steps in
    (omega (arith, c.decreases, smaller), (within.0, within.1))

pub visit-loop-span-preserved : goal.visit-loop-span-preserved
visit-loop-span-preserved g t c =
    let tally = g.S.GapSink.tally in
    let piece = g.S.GapSink.piece in
    let loop = c.loop-span in
    let span = span_of c.in-Some.span in
    let least = c.least_of-least.result in
    let now = tally loop.self.sink loop.out in
    let middle = tally c.reach.new.sink c.reach.new.out in
    let after = tally c.visit_span.new.self.sink c.visit_span.new.out in
    let free = subst (λ held. WritesPieces now middle (gaps_above piece (map step_at held) (free_before loop.next least span))) c.deref-in-loop-span.ensures.value c.in_ok-next.ensures.gaps in
    let inside = subst (λ row. WritesGapsWhere piece (IsGapBelow row (branches_of_span span c.in-Some.child none)) (map step_at loop.self.steps.items) middle after)
    c.row-row.ensures.row c.in_ok-visit_span.ensures.gaps in
    walked_span piece c.args.not_allowed c.args.branch.now c.in-Some.child span loop.span-iterator c.next.new.self loop.next least
    (tally c.args.self.now.sink c.args.out.now) now c.args.self.now.steps.items loop.self.steps.items
    loop.invariant c.in-Some.ensures.steps (c.least_of-least.ensures ∙ ap least_at c.row-row.ensures.row)
    c.in_ok-next.next middle after c.visit_span.new.self.steps.items c.in_ok-next.ensures.next free c.in_ok-visit_span.ensures.steps inside

pub visit-returns-clause-gaps : goal.visit-returns-clause-gaps
visit-returns-clause-gaps g t c =
    let tally = g.S.GapSink.tally in
    let piece = g.S.GapSink.piece in
    let loop = c.loop-span in
    let end = c.rest_from-end.result in
    let now = tally loop.self.sink loop.out in
    let middle = tally c.free_elements.new.self c.free_elements.new.out in
    let after = tally c.visit_rest.new.self.sink c.visit_rest.new.out in
    let free = subst (λ held. WritesPieces now middle (gaps_above piece (map step_at held) (free_elements loop.next (end - loop.next)))) c.deref-2.ensures.value c.in_ok-free_elements.ensures.told in
    walked_rest piece c.args.not_allowed c.args.branch.now loop.span-iterator loop.next c.least_of-least.result end (tally c.args.self.now.sink c.args.out.now) now
    c.args.self.now.steps.items loop.self.steps.items loop.invariant c.in-None.ensures.steps.0 (c.least_of-least.ensures ∙ ap least_at c.row-row.ensures.row) c.rest_from-end.ensures
    middle after free c.in_ok-visit_rest.ensures.gaps

pub visit-returns-in_err-look_at-clause-begun : goal.visit-returns-in_err-look_at-clause-begun
visit-returns-in_err-look_at-clause-begun g t c =
    let tally = g.S.GapSink.tally in
    let piece = g.S.GapSink.piece in
    let steps = c.args.self.now.steps.items in
    let start = tally c.args.self.now.sink c.args.out.now in
    let now = tally c.look_at.new.sink c.look_at.new.out in
    on_any _ (here_begun piece c.args.not_allowed c.args.branch.now (map step_at steps) start now
    (subst (λ row. WritesGapsPrefixWhere piece (IsGapHere c.args.not_allowed row) (map step_at steps) start now) c.row-row.ensures.row
    (subst (λ held. WritesGapsPrefixWhere piece (IsGapHere c.args.not_allowed (option_map (λ row. row.now) c.row-row.result)) (map step_at held) start now) c.deref.ensures.value c.in_err-look_at.ensures.begun)))

pub visit-returns-in_err-next-clause-begun : goal.visit-returns-in_err-next-clause-begun
visit-returns-in_err-next-clause-begun g t c =
    let tally = g.S.GapSink.tally in
    let piece = g.S.GapSink.piece in
    let loop = c.loop-span in
    let span = span_of c.in-Some.span in
    let least = c.least_of-least.result in
    let now = tally loop.self.sink loop.out in
    let middle = tally c.reach.new.sink c.reach.new.out in
    on_any _ (begun_free piece c.args.not_allowed c.args.branch.now c.in-Some.child span loop.span-iterator c.next.new.self loop.next least
    (tally c.args.self.now.sink c.args.out.now) now c.args.self.now.steps.items loop.self.steps.items
    loop.invariant c.in-Some.ensures.steps (c.least_of-least.ensures ∙ ap least_at c.row-row.ensures.row)
    middle (subst (λ held. WritesPiecesPrefix now middle (gaps_above piece (map step_at held) (free_before loop.next least span))) c.deref-in-loop-span.ensures.value c.in_err-next.ensures.begun))

pub visit-returns-in_err-visit_span-clause-begun : goal.visit-returns-in_err-visit_span-clause-begun
visit-returns-in_err-visit_span-clause-begun g t c =
    let tally = g.S.GapSink.tally in
    let piece = g.S.GapSink.piece in
    let loop = c.loop-span in
    let span = span_of c.in-Some.span in
    let least = c.least_of-least.result in
    let now = tally loop.self.sink loop.out in
    let middle = tally c.reach.new.sink c.reach.new.out in
    let after = tally c.visit_span.new.self.sink c.visit_span.new.out in
    let free = subst (λ held. WritesPieces now middle (gaps_above piece (map step_at held) (free_before loop.next least span))) c.deref-in-loop-span.ensures.value c.in_ok-next.ensures.gaps in
    on_any _ (begun_span piece c.args.not_allowed c.args.branch.now c.in-Some.child span loop.span-iterator c.next.new.self loop.next least
    (tally c.args.self.now.sink c.args.out.now) now c.args.self.now.steps.items loop.self.steps.items
    loop.invariant c.in-Some.ensures.steps (c.least_of-least.ensures ∙ ap least_at c.row-row.ensures.row)
    middle after free
    (subst (λ row. WritesGapsPrefixWhere piece (IsGapBelow row (branches_of_span span c.in-Some.child none)) (map step_at loop.self.steps.items) middle after) c.row-row.ensures.row c.in_err-visit_span.ensures.begun))

pub visit-returns-in_err-free_elements-clause-begun : goal.visit-returns-in_err-free_elements-clause-begun
visit-returns-in_err-free_elements-clause-begun g t c =
    let tally = g.S.GapSink.tally in
    let piece = g.S.GapSink.piece in
    let loop = c.loop-span in
    let end = c.rest_from-end.result in
    let now = tally loop.self.sink loop.out in
    let middle = tally c.free_elements.new.self c.free_elements.new.out in
    on_any _ (begun_last piece c.args.not_allowed c.args.branch.now loop.span-iterator loop.next c.least_of-least.result end (tally c.args.self.now.sink c.args.out.now) now
    c.args.self.now.steps.items loop.self.steps.items loop.invariant c.in-None.ensures.steps.0 (c.least_of-least.ensures ∙ ap least_at c.row-row.ensures.row) c.rest_from-end.ensures
    middle (subst (λ held. WritesPiecesPrefix now middle (gaps_above piece (map step_at held) (free_elements loop.next (end - loop.next)))) c.deref-2.ensures.value c.in_err-free_elements.ensures.begun))

pub visit-returns-in_err-visit_rest-clause-begun : goal.visit-returns-in_err-visit_rest-clause-begun
visit-returns-in_err-visit_rest-clause-begun g t c =
    let tally = g.S.GapSink.tally in
    let piece = g.S.GapSink.piece in
    let loop = c.loop-span in
    let end = c.rest_from-end.result in
    let now = tally loop.self.sink loop.out in
    let middle = tally c.free_elements.new.self c.free_elements.new.out in
    let after = tally c.visit_rest.new.self.sink c.visit_rest.new.out in
    let free = subst (λ held. WritesPieces now middle (gaps_above piece (map step_at held) (free_elements loop.next (end - loop.next)))) c.deref-2.ensures.value c.in_ok-free_elements.ensures.told in
    on_any _ (begun_rest piece c.args.not_allowed c.args.branch.now loop.span-iterator loop.next c.least_of-least.result end (tally c.args.self.now.sink c.args.out.now) now
    c.args.self.now.steps.items loop.self.steps.items loop.invariant c.in-None.ensures.steps.0 (c.least_of-least.ensures ∙ ap least_at c.row-row.ensures.row) c.rest_from-end.ensures
    middle after free c.in_err-visit_rest.ensures.begun)

-- ---- branches that are kept as one
pub visit_span-returns-after-is_demanded-clause-gaps : goal.visit_span-returns-after-is_demanded-clause-gaps
visit_span-returns-after-is_demanded-clause-gaps g t c =
    let tally = g.S.GapSink.tally in
    let piece = g.S.GapSink.piece in
    let above = option_map (λ row. row.now) c.args.above in
    let child = c.args.child.now in
    let step = label c.in-Label.label.now in
    let steps = c.args.self.now.steps.items in
    let path = map step_at steps in
    let start = tally c.args.self.now.sink c.args.out.now in
    let joined = c.if-is_demanded in
    elim joined.branch [
      | visit_span-then-is_demanded+in_ok-enter-in-Label+in_ok-visit-in-Label w ↦
          let pushed = w.enter.new.steps.items in
          let after = tally w.visit.new.self.sink w.visit.new.out in
          let asked = demand_is above above _ (row_of child) step c.is_demanded.result _ c.is_demanded.ensures refl c.row.ensures.row w.if-is_demanded.true in
          let inside = subst (λ r. WritesGapsWhere piece (IsGapIn r child) (map step_at pushed) start after) w.is_refused.ensures w.in_ok-visit-in-Label.ensures.gaps in
          let found = subst (λ span. WritesGapsWhere piece (IsGapBelow above (branches_of_span (span_of span) child none)) path start after) (sym c.in-Label.is)
          (field_added piece above step child start after steps pushed (Label c.in-Label.label) asked refl w.in_ok-enter-in-Label.ensures inside) in
          let same : joined.self.sink ≡ w.visit.new.self.sink = ap (λ s. s.sink) w.self-is in
          subst (λ s. WritesGapsWhere piece (IsGapBelow above (branches_of_span (span_of c.args.span) child none)) path start (tally s joined.out)) (sym same)
          (subst (λ o. WritesGapsWhere piece (IsGapBelow above (branches_of_span (span_of c.args.span) child none)) path start (tally w.visit.new.self.sink o)) (sym w.out-is) found)
      | visit_span-else-is_demanded w ↦
          let unasked = demand_is above above _ (row_of child) step c.is_demanded.result _ c.is_demanded.ensures refl c.row.ensures.row w.if-is_demanded.false in
          let found = subst (λ span. WritesGapsWhere piece (IsGapBelow above (branches_of_span (span_of span) child none)) path start start) (sym c.in-Label.is)
          (field_unasked piece above step child path start unasked) in
          let same : joined.self.sink ≡ c.args.self.now.sink = ap (λ s. s.sink) w.self-is in
          subst (λ s. WritesGapsWhere piece (IsGapBelow above (branches_of_span (span_of c.args.span) child none)) path start (tally s joined.out)) (sym same)
          (subst (λ o. WritesGapsWhere piece (IsGapBelow above (branches_of_span (span_of c.args.span) child none)) path start (tally c.args.self.now.sink o)) (sym w.out-is) found)
    ]

pub visit_span-returns-in_err-visit-in-Label-clause-begun : goal.visit_span-returns-in_err-visit-in-Label-clause-begun
visit_span-returns-in_err-visit-in-Label-clause-begun g t c =
    let tally = g.S.GapSink.tally in
    let piece = g.S.GapSink.piece in
    let above = option_map (λ row. row.now) c.args.above in
    let child = c.args.child.now in
    let step = label c.in-Label.label.now in
    let steps = c.args.self.now.steps.items in
    let pushed = c.enter.new.steps.items in
    let start = tally c.args.self.now.sink c.args.out.now in
    let after = tally c.visit.new.self.sink c.visit.new.out in
    let asked = demand_is above above _ (row_of child) step c.is_demanded.result _ c.is_demanded.ensures refl c.row.ensures.row c.if-is_demanded.true in
    let inside = subst (λ r. WritesGapsPrefixWhere piece (IsGapIn r child) (map step_at pushed) start after) c.is_refused.ensures c.in_err-visit-in-Label.ensures.begun in
    on_any _ (subst (λ span. WritesGapsPrefixWhere piece (IsGapBelow above (branches_of_span (span_of span) child none)) (map step_at steps) start after) (sym c.in-Label.is)
    (begun_field piece above step child start after steps pushed (Label c.in-Label.label) asked refl c.in_ok-enter-in-Label.ensures inside))

pub visit_span-returns-in_err-enter-in-Label-clause-begun : goal.visit_span-returns-in_err-enter-in-Label-clause-begun
visit_span-returns-in_err-enter-in-Label-clause-begun g t c = on_any _ (fronts_none g.S.GapSink.piece _ _ _ _ refl)

pub visit_span-returns-in_ok-visit_run-in-Elements-clause-gaps : goal.visit_span-returns-in_ok-visit_run-in-Elements-clause-gaps
visit_span-returns-in_ok-visit_run-in-Elements-clause-gaps g t c =
    let tally = g.S.GapSink.tally in
    let piece = g.S.GapSink.piece in
    let above = option_map (λ row. row.now) c.args.above in
    let child = c.args.child.now in
    let run = c.in-Elements in
    let path = map step_at c.args.self.now.steps.items in
    let start = tally c.args.self.now.sink c.args.out.now in
    let after = tally c.visit_run.new.self.sink c.visit_run.new.out in
    let end = c.demanded_end-end.ensures ∙ ap (λ least. min least (run.first + run.more + 1)) c.least_of.ensures in
    subst (λ span. WritesGapsWhere piece (IsGapBelow above (branches_of_span (span_of span) child none)) path start after) (sym run.is)
    (run_added piece above run.first run.more c.demanded_end-end.result child path start after end c.in_ok-visit_run-in-Elements.ensures.gaps)

pub visit_span-returns-in_err-visit_run-in-Elements-clause-begun : goal.visit_span-returns-in_err-visit_run-in-Elements-clause-begun
visit_span-returns-in_err-visit_run-in-Elements-clause-begun g t c =
    let tally = g.S.GapSink.tally in
    let piece = g.S.GapSink.piece in
    let above = option_map (λ row. row.now) c.args.above in
    let child = c.args.child.now in
    let run = c.in-Elements in
    let path = map step_at c.args.self.now.steps.items in
    let start = tally c.args.self.now.sink c.args.out.now in
    let after = tally c.visit_run.new.self.sink c.visit_run.new.out in
    let end = c.demanded_end-end.ensures ∙ ap (λ least. min least (run.first + run.more + 1)) c.least_of.ensures in
    on_any _ (subst (λ span. WritesGapsPrefixWhere piece (IsGapBelow above (branches_of_span (span_of span) child none)) path start after) (sym run.is)
    (begun_run piece above run.first run.more c.demanded_end-end.result child path start after end c.in_err-visit_run-in-Elements.ensures.begun))

-- ---- the rest
pub visit_rest-returns-clause-gaps : goal.visit_rest-returns-clause-gaps
visit_rest-returns-clause-gaps g t c =
    let tally = g.S.GapSink.tally in
    all_among g.S.GapSink.piece c.args.branch.now c.in-Some.rest c.rest_from.result c.least_of-least.result (map step_at c.args.self.now.steps.items)
    (tally c.args.self.now.sink c.args.out.now) (tally c.visit_run.new.self.sink c.visit_run.new.out)
    c.in-Some.ensures.rest (c.least_of-least.ensures ∙ ap least_at c.row.ensures.row) c.rest_from.ensures c.in_ok-visit_run.ensures.gaps

pub visit_rest-returns-in_err-visit_run-clause-begun : goal.visit_rest-returns-in_err-visit_run-clause-begun
visit_rest-returns-in_err-visit_run-clause-begun g t c =
    let tally = g.S.GapSink.tally in
    on_any _ (begun_among g.S.GapSink.piece c.args.branch.now c.in-Some.rest c.rest_from.result c.least_of-least.result (map step_at c.args.self.now.steps.items)
    (tally c.args.self.now.sink c.args.out.now) (tally c.visit_run.new.self.sink c.visit_run.new.out)
    c.in-Some.ensures.rest (c.least_of-least.ensures ∙ ap least_at c.row.ensures.row) c.rest_from.ensures c.in_err-visit_run.ensures.begun)

pub visit_rest-returns-in_default-clause-gaps : goal.visit_rest-returns-in_default-clause-gaps
visit_rest-returns-in_default-clause-gaps g t c =
    nothing_onward g.S.GapSink.piece c.args.branch.now (map step_at c.args.self.now.steps.items) (g.S.GapSink.tally c.args.self.now.sink c.args.out.now) (is_ended c.args.branch.now (sym c.in_default.ensures.rest))

-- ---- elements that are alike
pub visit_run-returns-clause-gaps : goal.visit_run-returns-clause-gaps
visit_run-returns-clause-gaps g t c =
    let tally = g.S.GapSink.tally in
    let loop = c.loop-number in
    let first = c.args.first in
    let all : loop.number - first ≡ c.args.end - first = omega (arith, loop.invariant.1, c.loop-number-test.false) in
    same_elements g.S.GapSink.piece first loop.number c.args.end c.args.element.now (map step_at c.args.self.now.steps.items) (tally c.args.self.now.sink c.args.out.now) (tally loop.self.sink loop.out) all loop.invariant.3

pub visit_run-loop-number-init : goal.visit_run-loop-number-init
visit_run-loop-number-init g t c = (omega arith, omega arith, refl, none_among g.S.GapSink.piece c.args.first c.args.element.now (map step_at c.args.self.now.steps.items) (g.S.GapSink.tally c.args.self.now.sink c.args.out.now))

pub visit_run-loop-number-preserved : goal.visit_run-loop-number-preserved
visit_run-loop-number-preserved g t c =
    let tally = g.S.GapSink.tally in
    let loop = c.loop-number in
    let steps = c.args.self.now.steps.items in
    let step = Index loop.number in
    let back = popped loop.self.steps.items c.visit.new.self.steps.items c.pop.new.self.items step c.visit.new.self.steps.len
    (c.in_ok-visit.ensures.steps ∙ c.in_ok-enter.ensures) c.visit.new.self.steps.ok.0 c.pop.ensures.rest in (
      omega (arith, loop.invariant.0),
      omega (arith, loop.invariant.1),
      back ∙ loop.invariant.2,
      element_added g.S.GapSink.piece c.args.first loop.number c.args.element.now (map step_at steps) (map step_at c.enter.new.steps.items)
          (tally c.args.self.now.sink c.args.out.now) (tally loop.self.sink loop.out) (tally c.visit.new.self.sink c.visit.new.out)
          loop.invariant.0 loop.invariant.3 (pushed_on loop.self.steps.items steps c.enter.new.steps.items step c.in_ok-enter.ensures loop.invariant.2) c.in_ok-visit.ensures.gaps,
    )

pub visit_run-returns-then-len-before-clause-gaps : goal.visit_run-returns-then-len-before-clause-gaps
visit_run-returns-then-len-before-clause-gaps g t c =
    let tally = g.S.GapSink.tally in
    let piece = g.S.GapSink.piece in
    let loop = c.loop-number in
    let first = c.args.first in
    let element = c.args.element.now in
    let steps = c.args.self.now.steps.items in
    let pushed = c.enter.new.steps.items in
    let start = tally c.args.self.now.sink c.args.out.now in
    let now = tally loop.self.sink loop.out in
    let after = tally c.visit.new.self.sink c.visit.new.out in
    let here = c.in_ok-visit.ensures.gaps in
    let all = element_added piece first loop.number element (map step_at steps) (map step_at pushed) start now after
    loop.invariant.0 loop.invariant.3 (pushed_on loop.self.steps.items steps pushed (Index loop.number) c.in_ok-enter.ensures loop.invariant.2) here in
    let same : after.count ≡ now.count = omega (arith, c.if-len-before.true, c.len.ensures.len, c.len-before.ensures.len) in
    any_among piece c.len.ensures.some first (loop.number + 1) c.args.end element (map step_at steps) (map step_at pushed) start now after same here all

pub visit_run-returns-in_err-enter-clause-begun : goal.visit_run-returns-in_err-enter-clause-begun
visit_run-returns-in_err-enter-clause-begun g t c =
    let tally = g.S.GapSink.tally in
    let loop = c.loop-number in
    on_any _ (begun_alike g.S.GapSink.piece c.args.first loop.number c.args.end c.args.element.now (map step_at c.args.self.now.steps.items) (tally c.args.self.now.sink c.args.out.now) (tally loop.self.sink loop.out)
    loop.invariant.0 (omega (arith, c.loop-number-test.true)) loop.invariant.3)

pub visit_run-returns-in_err-visit-clause-begun : goal.visit_run-returns-in_err-visit-clause-begun
visit_run-returns-in_err-visit-clause-begun g t c =
    let tally = g.S.GapSink.tally in
    let loop = c.loop-number in
    let steps = c.args.self.now.steps.items in
    let step = Index loop.number in
    on_any _ (begun_element g.S.GapSink.piece c.args.first loop.number c.args.end c.args.element.now (map step_at steps) (map step_at c.enter.new.steps.items)
    (tally c.args.self.now.sink c.args.out.now) (tally loop.self.sink loop.out) (tally c.visit.new.self.sink c.visit.new.out)
    loop.invariant.0 (omega (arith, c.loop-number-test.true)) loop.invariant.3
    (pushed_on loop.self.steps.items steps c.enter.new.steps.items step c.in_ok-enter.ensures loop.invariant.2) c.in_err-visit.ensures.begun)
