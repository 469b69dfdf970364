use Rattle.std.proofs.Common.{arith}
use Rattle.cue_why.proofs.Tracing.{at_start, at_more, at_end}
use Rattle.cue_why.proofs.trail.trail_of.Goals as goal

pub loop-step-init : goal.loop-step-init
loop-step-init c =
    at_start c.args.source.now.kind c.args.source.now.table.now c.args.path.now c.in_ok-parts.parts.items c.deref.result.now c.new-rows.result.items c.push.new.self.items c.in_ok-row_of.field-0
    c.in_ok-parts.ensures c.deref.ensures.value c.in_ok-row_of.ensures c.new-rows.ensures.items c.in_ok-push.ensures.items

pub loop-step-preserved : goal.loop-step-preserved
loop-step-preserved c =
    at_more c.args.source.now.kind c.args.source.now.table.now c.args.path.now c.loop-step.step-index c.step-item.result c.loop-step.parts.items c.deref-in-loop-step.result.now c.in_ok-parts-2.parts.items c.deref-in-loop-step-2.result.now
    c.loop-step.rows.items c.push-in-loop-step.new.self.items c.in_ok-row_of-2.field-0 c.loop-step-test.true c.step-item.is c.deref-in-loop-step.ensures.value c.in_ok-parts-2.ensures c.deref-in-loop-step-2.ensures.value
    c.in_ok-row_of-2.ensures c.in_ok-push-2.ensures.items c.loop-step.invariant

pub returns : goal.returns
returns c = at_end c.args.source.now c.args.path.now c.loop-step.step-index c.loop-step.parts.items c.loop-step.rows.items (omega (arith, c.loop-step-test.false)) c.loop-step.invariant
