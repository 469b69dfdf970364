use Rattle.std.proofs.Common.{Contains, ◌^◌, ◌∙◌, ap, sym, subst}
use Rattle.std.specs.BinaryHeap.{heap_items}
use Rattle.cue_table.specs.Form.{AreWithinDepth, IsRowKept}
use Rattle.cue_table.specs.Spans.{branches_of_spans}
use Rattle.cue_table.specs.StepsOfCode.{span_of}
use Rattle.cue_table.specs.Tree.{below}
use Rattle.cue_eval.proofs.Bounds.{AreLeft, left_all, left_span, all_left, kept_itself, kept_on, own_within, span_within, span_before}
use Rattle.cue_eval.proofs.left_out.push_bounds.Goals as goal

pub loop-span-init : goal.loop-span-init
loop-span-init g c =
    let P = IsRowKept g.R.Narrow.refuses g.R.Narrow.is_value in
    let tree = c.args.branch.now in
    let bounds = heap_items c.args.bounds.now in
    let list = ap (λ xs. branches_of_spans xs) c.into_iter-span-iterator.ensures.into_iter_gives ∙ c.spans-span-items.ensures.list in (
      c.requires.heap,
      kept_itself bounds,
      left_all (below tree) c.into_iter-span-iterator.result bounds list,
      c.requires.few,
      subst (AreWithinDepth c.fixed-fixed.result) (sym list)
          (subst (λ n. AreWithinDepth n (below tree)) (sym c.fixed-fixed.ensures.fixed) (own_within P tree c.fixed-fixed.ensures.form)),
    )

pub push_span-requires : goal.push_span-requires
push_span-requires g c =
    let loop = c.loop-span in
    let here = span_within c.fixed-fixed.result (span_of c.in-Some.span) c.in-Some.field-0-1 (branches_of_spans c.next.new.self)
    (subst (λ xs. AreWithinDepth c.fixed-fixed.result (branches_of_spans xs)) c.in-Some.ensures.steps loop.invariant.4) in
    record { heap = loop.invariant.0; few = loop.invariant.3; within = span_before c.fixed-fixed.result (2 ^ 32) (span_of c.in-Some.span) c.fixed-fixed.ensures.few here.0 }

pub loop-span-preserved : goal.loop-span-preserved
loop-span-preserved g c =
    let loop = c.loop-span in
    let all = below c.args.branch.now in
    let old = heap_items loop.bounds in
    let new = heap_items c.push_span.new.bounds in
    let put = c.in_ok-push_span.ensures in (
      put.heap,
      kept_on (heap_items c.args.bounds.now) old new loop.invariant.1 put.kept,
      left_span all (span_of c.in-Some.span) c.in-Some.field-0-1 (branches_of_spans c.next.new.self) old new
          (subst (λ xs. AreLeft all (branches_of_spans xs) old) c.in-Some.ensures.steps loop.invariant.2) put.kept put.there,
      put.few,
      (span_within c.fixed-fixed.result (span_of c.in-Some.span) c.in-Some.field-0-1 (branches_of_spans c.next.new.self)
          (subst (λ xs. AreWithinDepth c.fixed-fixed.result (branches_of_spans xs)) c.in-Some.ensures.steps loop.invariant.4)).1,
    )

pub returns-clause-kept : goal.returns-clause-kept
returns-clause-kept g c = kept_on (heap_items c.args.bounds.now) (heap_items c.loop-span.bounds) (heap_items c.push_bound.new.bounds) c.loop-span.invariant.1 c.in_ok-push_bound.ensures.kept

pub returns-clause-alike : goal.returns-clause-alike
returns-clause-alike g c =
    let tree = c.args.branch.now in
    let old = heap_items c.loop-span.bounds in
    let new = heap_items c.push_bound.new.bounds in
    let put = c.in_ok-push_bound.ensures in
    all_left tree old new (subst (λ xs. AreLeft (below tree) (branches_of_spans xs) old) c.in-None.ensures.steps.0 c.loop-span.invariant.2) put.kept
    (subst (λ n. Contains new n) c.fixed-fixed.ensures.fixed put.there)
