use Rattle.std.proofs.Common.{◌+◌, ◌∙◌, ap, drop, subst, sym}
use Rattle.cue_syntax.specs.declared.tree.Expr.TheVariants as exprs
use Rattle.cue_scope.proofs.Walking.{at_hand}
use Rattle.cue_eval.proofs.TextTerms.{AreTextsSoFar, texts_more}
use Rattle.cue_eval.proofs.pair.texts_of_terms.Goals as goal

pub loop-term-preserved : goal.loop-term-preserved
loop-term-preserved c =
    let left = at_hand c.args.terms.now c.loop-term.term-index c.term-item.result c.loop-term-test.true c.term-item.is in
    let rest = drop (c.loop-term.term-index + 1) c.args.terms.now in
    subst (λ texts. AreTextsSoFar c.args.terms.now texts rest) (sym c.in_ok-push-in-Text.ensures.items)
    (texts_more c.args.terms.now _ rest c.loop-term.texts.items c.term-item.result c.in_ok-to_text-in-Text.field-0 c.loop-term.invariant left
    c.if-not-term.true (c.in-Text.is ∙ ap exprs.Text (sym c.in_ok-to_text-in-Text.ensures.bytes)))
