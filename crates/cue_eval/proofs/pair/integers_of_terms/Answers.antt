use Rattle.std.proofs.Common.{◌+◌, drop, subst, sym}
use Rattle.cue_scope.proofs.Walking.{at_hand}
use Rattle.cue_eval.proofs.IntegerTerms.{AreIntegersSoFar, integers_more}
use Rattle.cue_eval.proofs.pair.integers_of_terms.Goals as goal

pub loop-term-preserved : goal.loop-term-preserved
loop-term-preserved c =
    let left = at_hand c.args.terms.now c.loop-term.term-index c.term-item.result c.loop-term-test.true c.term-item.is in
    let rest = drop (c.loop-term.term-index + 1) c.args.terms.now in
    subst (λ numbers. AreIntegersSoFar c.args.terms.now numbers rest) (sym c.in_ok-push-in-Integer.ensures.items)
    (integers_more c.args.terms.now _ rest c.loop-term.numbers.items c.term-item.result c.in-Integer.written c.loop-term.invariant left
    c.if-not-term.true c.in-Integer.is)
