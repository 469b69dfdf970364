use Rattle.std.proofs.Common.{arith}
use Rattle.cue_why.proofs.Showing.{at_start, at_more, at_end}
use Rattle.cue_why.proofs.shown.shown_parts.Goals as goal

pub loop-step-init : goal.loop-step-init
loop-step-init c =
    at_start c.args.source.now c.args.path.now c.in_ok-parts.parts.items c.in_ok-root_parts.field-0.items c.in_ok-shown.shown.items c.in_ok-parts.ensures c.in_ok-root_parts.ensures c.in_ok-shown.ensures

pub loop-step-preserved : goal.loop-step-preserved
loop-step-preserved c =
    at_more c.args.source.now c.args.path.now c.loop-step.step-index c.step-item.result c.loop-step.parts.items c.deref.result.now c.in_ok-found.found.items c.in_ok-select_refusing.field-0.items c.loop-step.shown.items
    c.keep_later-shown.result.items c.deref-in-loop-step.result.now c.in_ok-parts-2.parts.items c.loop-step-test.true c.step-item.is c.loop-step.invariant c.deref.ensures.value c.in_ok-found.ensures c.in_ok-select_refusing.ensures
    c.keep_later-shown.ensures.none c.keep_later-shown.ensures.some c.deref-in-loop-step.ensures.value c.in_ok-parts-2.ensures

pub returns : goal.returns
returns c = at_end c.args.source.now c.args.path.now c.loop-step.step-index c.loop-step.parts.items c.loop-step.shown.items (omega (arith, c.loop-step-test.false)) c.loop-step.invariant
