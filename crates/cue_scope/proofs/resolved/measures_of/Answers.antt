use Rattle.std.proofs.Common.{arith, sym, subst}
use Rattle.cue_scope.specs.Kept.{nodes_kept}
use Rattle.cue_scope.specs.declared.measure.KnownMeasures.{KnownMeasures}
use Rattle.cue_scope.proofs.Ordered.{IsMeasuredSoFar, node_inside, known_next, measured_more, measured_all}
use Rattle.cue_scope.proofs.resolved.measures_of.Goals as goal

pub definition-measure-requires : goal.definition-measure-requires
definition-measure-requires c = node_inside (nodes_kept c.args.definitions.now) c.args.order.now c.requires c.loop-number.number-index c.loop-number-test.true

pub index_mut-requires : goal.index_mut-requires
index_mut-requires c =
    let inside = node_inside (nodes_kept c.args.definitions.now) c.args.order.now c.requires c.loop-number.number-index c.loop-number-test.true in
    let same = c.loop-number.invariant.lengths in
    omega arith

pub loop-number-preserved : goal.loop-number-preserved
loop-number-preserved c =
    let ds = nodes_kept c.args.definitions.now in
    let order = c.args.order.now in
    let known : KnownMeasures = record { definitions = c.args.definitions; measures = c.deref.result } in
    let so_far = subst (λ z. IsMeasuredSoFar ds order c.loop-number.number-index z) (sym c.deref.ensures.value) c.loop-number.invariant in
    measured_more ds order c.loop-number.number-index c.loop-number.measures.items c.definition-measure.result c.requires c.loop-number-test.true c.loop-number.invariant
    (c.definition-measure.ensures order c.requires (known_next known order c.loop-number.number-index c.requires c.loop-number-test.true so_far))

pub returns-clause-measured : goal.returns-clause-measured
returns-clause-measured c =
    let ds = nodes_kept c.args.definitions.now in
    let at_end = c.loop-number-test.false in
    measured_all ds c.args.order.now c.loop-number.measures.items c.requires
    (let w = c.loop-number.invariant in record { lengths = w.lengths; measured = λ k d a b. w.measured k d (omega arith) b })
