use Rattle.std.proofs.Common.{◌≡◌, ◌+◌, ◌-◌, min, map, false, [], refl, sym, ap, subst, ◌∙◌, arith}
use Rattle.std.specs.Option.{option_map}
use Rattle.cue_lattice.specs.Path.{label}
use Rattle.cue_table.specs.Spans.{branches_of_spans, branches_of_span}
use Rattle.cue_table.specs.StepsOfCode.{step_at, span_of}
use Rattle.cue_table.specs.declared.step_ref.StepRef.TheVariants.{Label, Index}
use Rattle.cue_table.specs.Tree.{none, row_of, below}
use Rattle.cue_table.specs.Size.{children_size}
use Rattle.cue_report.specs.Inner.Search.{conflict_under, conflicts_under, has_no_value, conflict_here, conflicts_in, conflicts_below, conflicts_onward, each_index, least_at}
use Rattle.cue_report.specs.Inner.Telling.{WritesPieces, WritesPiecesPrefix}
use Rattle.cue_report.proofs.Runs.{run_is}
use Rattle.cue_report.proofs.Walk.{popped, pushed_on, walked_span, field_is, span_smaller, walked, begun_here, begun_span, begun_rest, walked_element, begun_element, each_begun, all_elements, demand_is, unasked_is, is_ended}
use Rattle.cue_report.proofs.Silent.{silent, any_elements}
use Rattle.cue_report.proofs.Telling.{grows_none, starts_none, starts_whole}
use Rattle.cue_report.proofs.Writing.{on_any}
use Rattle.cue_report.proofs.conflict.ConflictSearch.+walk.Goals.{visit_span-then-is_demanded+in_ok-enter-in-Label+in_ok-visit-in-Label, visit_span-else-is_demanded}
use Rattle.cue_report.proofs.conflict.ConflictSearch.+walk.Goals as goal

-- ---- a place
pub visit-loop-span-init : goal.visit-loop-span-init
visit-loop-span-init g t c =
    let tally = g.S.ConflictSink.tally in
    let all = ap branches_of_spans c.into_iter-span-iterator.ensures.into_iter_gives ∙ c.spans-span-items.ensures.list in
    record {
      same = refl;
      done = [];
      split = ap (conflicts_below (row_of c.args.branch.now)) (sym all);
      told = grows_none (tally c.look_at.new.sink c.look_at.new.out);
      small = let size = ap children_size all in omega arith;
    }

pub visit-visit_span-requires : goal.visit-visit_span-requires
visit-visit_span-requires g t c κs within =
    let smaller = span_smaller c.args.branch.now c.loop-span.span-iterator c.next.new.self (span_of c.in-Some.span) c.in-Some.child c.loop-span.invariant.small c.in-Some.ensures.steps in
    (omega (arith, c.decreases, smaller), (within.0, within.1))

pub visit-loop-span-preserved : goal.visit-loop-span-preserved
visit-loop-span-preserved g t c =
    let tally = g.S.ConflictSink.tally in
    let piece = g.S.ConflictSink.piece in
    let loop = c.loop-span in
    let span = span_of c.in-Some.span in
    walked_span piece (row_of c.args.branch.now) (below c.args.branch.now) loop.span-iterator c.next.new.self span c.in-Some.child
    (tally c.look_at.new.sink c.look_at.new.out) (tally loop.self.sink loop.out) (tally c.visit_span.new.self.sink c.visit_span.new.out)
    c.args.self.now.steps.items loop.self.steps.items c.visit_span.new.self.steps.items
    loop.invariant c.in-Some.ensures.steps
    (subst (λ row. WritesPieces (tally loop.self.sink loop.out) (tally c.visit_span.new.self.sink c.visit_span.new.out) (conflicts_under piece (map step_at loop.self.steps.items) (conflicts_below row (branches_of_span span c.in-Some.child none))))
    c.row-row.ensures.row c.in_ok-visit_span.ensures.found)
    c.in_ok-visit_span.ensures.steps

pub visit-returns-clause-found : goal.visit-returns-clause-found
visit-returns-clause-found g t c =
    let tally = g.S.ConflictSink.tally in
    let piece = g.S.ConflictSink.piece in
    let loop = c.loop-span in
    let path = map step_at c.args.self.now.steps.items in
    let start = tally c.args.self.now.sink c.args.out.now in
    let before = tally c.look_at.new.sink c.look_at.new.out in
    let looked = subst (λ steps. WritesPieces start before (conflicts_under piece (map step_at steps) (conflict_here (has_no_value (row_of c.args.branch.now)) c.args.not_allowed))) c.deref.ensures.value
    (subst (λ row. WritesPieces start before (conflicts_under piece (map step_at c.deref.result.now) (conflict_here (has_no_value row) c.args.not_allowed))) c.row-row.ensures.row c.in_ok-look_at.ensures.found) in
    walked piece c.args.branch.now loop.span-iterator c.args.not_allowed start before (tally loop.self.sink loop.out) (tally c.visit_rest.new.self.sink c.visit_rest.new.out)
    c.args.self.now.steps.items loop.self.steps.items loop.invariant c.in-None.ensures.steps.0 looked c.in_ok-visit_rest.ensures.found

pub visit-returns-in_err-look_at-clause-begun : goal.visit-returns-in_err-look_at-clause-begun
visit-returns-in_err-look_at-clause-begun g t c =
    let tally = g.S.ConflictSink.tally in
    let piece = g.S.ConflictSink.piece in
    let start = tally c.args.self.now.sink c.args.out.now in
    let before = tally c.look_at.new.sink c.look_at.new.out in
    on_any _ (begun_here piece c.args.branch.now c.args.not_allowed start before (map step_at c.args.self.now.steps.items)
    (subst (λ steps. WritesPiecesPrefix start before (conflicts_under piece (map step_at steps) (conflict_here (has_no_value (row_of c.args.branch.now)) c.args.not_allowed))) c.deref.ensures.value
    (subst (λ row. WritesPiecesPrefix start before (conflicts_under piece (map step_at c.deref.result.now) (conflict_here (has_no_value row) c.args.not_allowed))) c.row-row.ensures.row c.in_err-look_at.ensures.begun)))

pub visit-returns-in_err-visit_span-clause-begun : goal.visit-returns-in_err-visit_span-clause-begun
visit-returns-in_err-visit_span-clause-begun g t c =
    let tally = g.S.ConflictSink.tally in
    let piece = g.S.ConflictSink.piece in
    let loop = c.loop-span in
    let span = span_of c.in-Some.span in
    let start = tally c.args.self.now.sink c.args.out.now in
    let before = tally c.look_at.new.sink c.look_at.new.out in
    let middle = tally loop.self.sink loop.out in
    let after = tally c.visit_span.new.self.sink c.visit_span.new.out in
    let looked = subst (λ steps. WritesPieces start before (conflicts_under piece (map step_at steps) (conflict_here (has_no_value (row_of c.args.branch.now)) c.args.not_allowed))) c.deref.ensures.value
    (subst (λ row. WritesPieces start before (conflicts_under piece (map step_at c.deref.result.now) (conflict_here (has_no_value row) c.args.not_allowed))) c.row-row.ensures.row c.in_ok-look_at.ensures.found) in
    on_any _ (begun_span piece c.args.branch.now loop.span-iterator c.next.new.self span c.in-Some.child c.args.not_allowed start before middle after
    c.args.self.now.steps.items loop.self.steps.items loop.invariant c.in-Some.ensures.steps looked
    (subst (λ row. WritesPiecesPrefix middle after (conflicts_under piece (map step_at loop.self.steps.items) (conflicts_below row (branches_of_span span c.in-Some.child none)))) c.row-row.ensures.row c.in_err-visit_span.ensures.begun))

pub visit-returns-in_err-visit_rest-clause-begun : goal.visit-returns-in_err-visit_rest-clause-begun
visit-returns-in_err-visit_rest-clause-begun g t c =
    let tally = g.S.ConflictSink.tally in
    let piece = g.S.ConflictSink.piece in
    let loop = c.loop-span in
    let start = tally c.args.self.now.sink c.args.out.now in
    let before = tally c.look_at.new.sink c.look_at.new.out in
    let looked = subst (λ steps. WritesPieces start before (conflicts_under piece (map step_at steps) (conflict_here (has_no_value (row_of c.args.branch.now)) c.args.not_allowed))) c.deref.ensures.value
    (subst (λ row. WritesPieces start before (conflicts_under piece (map step_at c.deref.result.now) (conflict_here (has_no_value row) c.args.not_allowed))) c.row-row.ensures.row c.in_ok-look_at.ensures.found) in
    on_any _ (begun_rest piece c.args.branch.now loop.span-iterator c.args.not_allowed start before (tally loop.self.sink loop.out) (tally c.visit_rest.new.self.sink c.visit_rest.new.out)
    c.args.self.now.steps.items loop.self.steps.items loop.invariant c.in-None.ensures.steps.0 looked c.in_err-visit_rest.ensures.begun)

-- ---- branches that are kept as one
pub visit_span-returns-after-is_demanded-clause-found : goal.visit_span-returns-after-is_demanded-clause-found
visit_span-returns-after-is_demanded-clause-found g t c =
    let tally = g.S.ConflictSink.tally in
    let piece = g.S.ConflictSink.piece in
    let above = option_map (λ row. row.now) c.args.above in
    let child = c.args.child.now in
    let step = label c.in-Label.label.now in
    let path = map step_at c.args.self.now.steps.items in
    let start = tally c.args.self.now.sink c.args.out.now in
    let joined = c.if-is_demanded in
    let told = conflicts_under piece path (conflicts_below above (branches_of_span (span_of c.args.span) child none)) in
    let is = ap (λ span. conflicts_below above (branches_of_span (span_of span) child none)) (sym c.in-Label.is) in
    elim joined.branch [
      | visit_span-then-is_demanded+in_ok-enter-in-Label+in_ok-visit-in-Label w ↦
          let pushed = w.enter.new.steps.items in
          let after = tally w.visit.new.self.sink w.visit.new.out in
          let asked = demand_is above above _ (row_of child) step c.is_demanded.result _ c.is_demanded.ensures refl c.row.ensures.row w.if-is_demanded.true in
          let all = field_is piece above step child c.args.self.now.steps.items pushed (Label c.in-Label.label) asked refl w.in_ok-enter-in-Label.ensures ∙ ap (conflicts_under piece path) is in
          let found = subst (WritesPieces start after) all (subst (λ r. WritesPieces start after (conflicts_under piece (map step_at pushed) (conflicts_in r child))) w.is_refused.ensures w.in_ok-visit-in-Label.ensures.found) in
          let same : joined.self.sink ≡ w.visit.new.self.sink = ap (λ s. s.sink) w.self-is in
          subst (λ s. WritesPieces start (tally s joined.out) told) (sym same) (subst (λ o. WritesPieces start (tally w.visit.new.self.sink o) told) (sym w.out-is) found)
      | visit_span-else-is_demanded w ↦
          let unasked = demand_is above above _ (row_of child) step c.is_demanded.result _ c.is_demanded.ensures refl c.row.ensures.row w.if-is_demanded.false in
          let found = subst (λ xs. WritesPieces start start (conflicts_under piece path xs)) (sym (unasked_is above step child unasked) ∙ is) (grows_none start) in
          let same : joined.self.sink ≡ c.args.self.now.sink = ap (λ s. s.sink) w.self-is in
          subst (λ s. WritesPieces start (tally s joined.out) told) (sym same) (subst (λ o. WritesPieces start (tally c.args.self.now.sink o) told) (sym w.out-is) found)
    ]

pub visit_span-returns-in_err-visit-in-Label-clause-begun : goal.visit_span-returns-in_err-visit-in-Label-clause-begun
visit_span-returns-in_err-visit-in-Label-clause-begun g t c =
    let tally = g.S.ConflictSink.tally in
    let piece = g.S.ConflictSink.piece in
    let above = option_map (λ row. row.now) c.args.above in
    let child = c.args.child.now in
    let step = label c.in-Label.label.now in
    let pushed = c.enter.new.steps.items in
    let path = map step_at c.args.self.now.steps.items in
    let start = tally c.args.self.now.sink c.args.out.now in
    let after = tally c.visit.new.self.sink c.visit.new.out in
    let asked = demand_is above above _ (row_of child) step c.is_demanded.result _ c.is_demanded.ensures refl c.row.ensures.row c.if-is_demanded.true in
    let all = field_is piece above step child c.args.self.now.steps.items pushed (Label c.in-Label.label) asked refl c.in_ok-enter-in-Label.ensures
    ∙ ap (λ span. conflicts_under piece path (conflicts_below above (branches_of_span (span_of span) child none))) (sym c.in-Label.is) in
    on_any _ (subst (WritesPiecesPrefix start after) all (subst (λ r. WritesPiecesPrefix start after (conflicts_under piece (map step_at pushed) (conflicts_in r child))) c.is_refused.ensures c.in_err-visit-in-Label.ensures.begun))

pub visit_span-returns-in_err-enter-in-Label-clause-begun : goal.visit_span-returns-in_err-enter-in-Label-clause-begun
visit_span-returns-in_err-enter-in-Label-clause-begun g t c = on_any _ (starts_none _ _ _ refl)

pub visit_span-returns-in_ok-visit_run-in-Elements-clause-found : goal.visit_span-returns-in_ok-visit_run-in-Elements-clause-found
visit_span-returns-in_ok-visit_run-in-Elements-clause-found g t c =
    let tally = g.S.ConflictSink.tally in
    let piece = g.S.ConflictSink.piece in
    let above = option_map (λ row. row.now) c.args.above in
    let child = c.args.child.now in
    let run = c.in-Elements in
    let end = c.demanded_end-end.ensures ∙ ap (λ least. min least (run.first + run.more + 1)) c.least_of.ensures in
    subst (λ xs. WritesPieces (tally c.args.self.now.sink c.args.out.now) (tally c.visit_run.new.self.sink c.visit_run.new.out) (conflicts_under piece (map step_at c.args.self.now.steps.items) xs))
    (sym (run_is above run.first run.more c.demanded_end-end.result child end) ∙ ap (λ span. conflicts_below above (branches_of_span (span_of span) child none)) (sym run.is))
    c.in_ok-visit_run-in-Elements.ensures.found

pub visit_span-returns-in_err-visit_run-in-Elements-clause-begun : goal.visit_span-returns-in_err-visit_run-in-Elements-clause-begun
visit_span-returns-in_err-visit_run-in-Elements-clause-begun g t c =
    let tally = g.S.ConflictSink.tally in
    let piece = g.S.ConflictSink.piece in
    let above = option_map (λ row. row.now) c.args.above in
    let child = c.args.child.now in
    let run = c.in-Elements in
    let end = c.demanded_end-end.ensures ∙ ap (λ least. min least (run.first + run.more + 1)) c.least_of.ensures in
    on_any _ (subst (λ xs. WritesPiecesPrefix (tally c.args.self.now.sink c.args.out.now) (tally c.visit_run.new.self.sink c.visit_run.new.out) (conflicts_under piece (map step_at c.args.self.now.steps.items) xs))
    (sym (run_is above run.first run.more c.demanded_end-end.result child end) ∙ ap (λ span. conflicts_below above (branches_of_span (span_of span) child none)) (sym run.is))
    c.in_err-visit_run-in-Elements.ensures.begun)

-- ---- the rest
pub visit_rest-returns-clause-found : goal.visit_rest-returns-clause-found
visit_rest-returns-clause-found g t c =
    let tally = g.S.ConflictSink.tally in
    subst (λ xs. WritesPieces (tally c.args.self.now.sink c.args.out.now) (tally c.visit_run.new.self.sink c.visit_run.new.out) (conflicts_under g.S.ConflictSink.piece (map step_at c.args.self.now.steps.items) xs))
    (all_elements c.args.branch.now c.in-Some.rest c.rest_from.result c.least_of-least.result c.in-Some.ensures.rest (c.least_of-least.ensures ∙ ap least_at c.row.ensures.row) c.rest_from.ensures)
    c.in_ok-visit_run.ensures.found

pub visit_rest-returns-in_err-visit_run-clause-begun : goal.visit_rest-returns-in_err-visit_run-clause-begun
visit_rest-returns-in_err-visit_run-clause-begun g t c =
    let tally = g.S.ConflictSink.tally in
    on_any _ (subst (λ xs. WritesPiecesPrefix (tally c.args.self.now.sink c.args.out.now) (tally c.visit_run.new.self.sink c.visit_run.new.out) (conflicts_under g.S.ConflictSink.piece (map step_at c.args.self.now.steps.items) xs))
    (all_elements c.args.branch.now c.in-Some.rest c.rest_from.result c.least_of-least.result c.in-Some.ensures.rest (c.least_of-least.ensures ∙ ap least_at c.row.ensures.row) c.rest_from.ensures)
    c.in_err-visit_run.ensures.begun)

pub visit_rest-returns-in_default-clause-found : goal.visit_rest-returns-in_default-clause-found
visit_rest-returns-in_default-clause-found g t c =
    let tally = g.S.ConflictSink.tally in
    let start = tally c.args.self.now.sink c.args.out.now in
    subst (λ rest. WritesPieces start start (conflicts_under g.S.ConflictSink.piece (map step_at c.args.self.now.steps.items) (conflicts_onward (row_of c.args.branch.now) rest)))
    (sym (is_ended c.args.branch.now (sym c.in_default.ensures.rest))) (grows_none start)

-- ---- elements that are alike
pub visit_run-loop-number-init : goal.visit_run-loop-number-init
visit_run-loop-number-init g t c =
    let tally = g.S.ConflictSink.tally in
    let start = tally c.args.self.now.sink c.args.out.now in
    let none_yet : 0 ≡ c.args.first - c.args.first = omega arith in (
      omega arith,
      omega arith,
      refl,
      subst (λ n. WritesPieces start start (conflicts_under g.S.ConflictSink.piece (map step_at c.args.self.now.steps.items) (each_index c.args.first n (conflicts_in false c.args.element.now)))) none_yet (grows_none start),
    )

pub visit_run-returns-clause-found : goal.visit_run-returns-clause-found
visit_run-returns-clause-found g t c =
    let tally = g.S.ConflictSink.tally in
    let piece = g.S.ConflictSink.piece in
    let loop = c.loop-number in
    let first = c.args.first in
    let all : loop.number - first ≡ c.args.end - first = omega (arith, loop.invariant.1, c.loop-number-test.false) in
    subst (λ n. WritesPieces (tally c.args.self.now.sink c.args.out.now) (tally loop.self.sink loop.out) (conflicts_under piece (map step_at c.args.self.now.steps.items) (each_index first n (conflicts_in false c.args.element.now)))) all loop.invariant.3

pub visit_run-loop-number-preserved : goal.visit_run-loop-number-preserved
visit_run-loop-number-preserved g t c =
    let tally = g.S.ConflictSink.tally in
    let piece = g.S.ConflictSink.piece in
    let loop = c.loop-number in
    let steps = c.args.self.now.steps.items in
    let step = Index loop.number in
    let back = popped loop.self.steps.items c.visit.new.self.steps.items c.pop.new.self.items step c.visit.new.self.steps.len
    (c.in_ok-visit.ensures.steps ∙ c.in_ok-enter.ensures) c.visit.new.self.steps.ok.0 c.pop.ensures.rest in (
      omega (arith, loop.invariant.0),
      omega (arith, loop.invariant.1),
      back ∙ loop.invariant.2,
      walked_element piece c.args.first loop.number (conflicts_in false c.args.element.now) (tally c.args.self.now.sink c.args.out.now) (tally loop.self.sink loop.out) (tally c.visit.new.self.sink c.visit.new.out)
          (map step_at steps) (map step_at c.enter.new.steps.items)
          loop.invariant.0 loop.invariant.3 (pushed_on loop.self.steps.items steps c.enter.new.steps.items step c.in_ok-enter.ensures loop.invariant.2) c.in_ok-visit.ensures.found,
    )

pub visit_run-returns-then-len-before-clause-found : goal.visit_run-returns-then-len-before-clause-found
visit_run-returns-then-len-before-clause-found g t c =
    let tally = g.S.ConflictSink.tally in
    let piece = g.S.ConflictSink.piece in
    let loop = c.loop-number in
    let first = c.args.first in
    let steps = c.args.self.now.steps.items in
    let pushed = c.enter.new.steps.items in
    let found = conflicts_in false c.args.element.now in
    let start = tally c.args.self.now.sink c.args.out.now in
    let now = tally loop.self.sink loop.out in
    let after = tally c.visit.new.self.sink c.visit.new.out in
    let all = walked_element piece first loop.number found start now after (map step_at steps) (map step_at pushed)
    loop.invariant.0 loop.invariant.3 (pushed_on loop.self.steps.items steps pushed (Index loop.number) c.in_ok-enter.ensures loop.invariant.2) c.in_ok-visit.ensures.found in
    let same : after.count ≡ now.count = omega (arith, c.if-len-before.true, c.len.ensures.len, c.len-before.ensures.len) in
    let none = silent piece c.len.ensures.some (conflict_under (map step_at pushed)) found now after c.in_ok-visit.ensures.found same in
    subst (λ xs. WritesPieces start after (conflicts_under piece (map step_at steps) xs)) (any_elements first (loop.number + 1 - first) (c.args.end - first) found none) all

pub visit_run-returns-in_err-enter-clause-begun : goal.visit_run-returns-in_err-enter-clause-begun
visit_run-returns-in_err-enter-clause-begun g t c =
    let tally = g.S.ConflictSink.tally in
    let piece = g.S.ConflictSink.piece in
    let loop = c.loop-number in
    let start = tally c.args.self.now.sink c.args.out.now in
    let now = tally loop.self.sink loop.out in
    on_any _ (each_begun piece c.args.first (loop.number - c.args.first) (c.args.end - c.args.first) (conflicts_in false c.args.element.now) start now (map step_at c.args.self.now.steps.items)
    loop.invariant.1 (starts_whole start now _ loop.invariant.3))

pub visit_run-returns-in_err-visit-clause-begun : goal.visit_run-returns-in_err-visit-clause-begun
visit_run-returns-in_err-visit-clause-begun g t c =
    let tally = g.S.ConflictSink.tally in
    let piece = g.S.ConflictSink.piece in
    let loop = c.loop-number in
    let steps = c.args.self.now.steps.items in
    let step = Index loop.number in
    on_any _ (begun_element piece c.args.first loop.number c.args.end (conflicts_in false c.args.element.now) (tally c.args.self.now.sink c.args.out.now) (tally loop.self.sink loop.out) (tally c.visit.new.self.sink c.visit.new.out)
    (map step_at steps) (map step_at c.enter.new.steps.items) loop.invariant.0 (omega (arith, c.loop-number-test.true)) loop.invariant.3
    (pushed_on loop.self.steps.items steps c.enter.new.steps.items step c.in_ok-enter.ensures loop.invariant.2) c.in_err-visit.ensures.begun)
