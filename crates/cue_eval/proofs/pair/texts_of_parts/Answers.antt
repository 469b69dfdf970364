use Rattle.std.proofs.Common.{◌≡◌, ◌+◌, ◌++◌, ◌∙◌, ap, drop, map, subst, sym}
use Rattle.cue_syntax.specs.declared.tree.Expr.TheVariants.{OtherText}
use Rattle.cue_scope.proofs.Walking.{at_hand}
use Rattle.cue_eval.proofs.OtherTexts.{parts_more}
use Rattle.cue_eval.proofs.pair.texts_of_parts.Goals as goal

pub loop-part-preserved : goal.loop-part-preserved
loop-part-preserved c =
    let left = at_hand c.args.parts.now c.loop-part.part-index c.part-item.result c.loop-part-test.true c.part-item.is in
    let rest = drop (c.loop-part.part-index + 1) c.args.parts.now in
    subst (λ texts. map OtherText texts ++ rest ≡ c.args.parts.now) (sym c.in_ok-push-in-OtherText.ensures.items)
    (parts_more OtherText c.args.parts.now _ rest c.loop-part.texts.items c.part-item.result c.in_ok-to_text-in-OtherText.field-0 c.loop-part.invariant left
    (c.in-OtherText.is ∙ ap OtherText (sym c.in_ok-to_text-in-OtherText.ensures.bytes)))
