use Rattle.std.proofs.Common.{◌≡◌, ◌+◌, ◌++◌, drop, map, subst, sym}
use Rattle.cue_syntax.specs.declared.tree.Expr.TheVariants.{OtherInteger}
use Rattle.cue_scope.proofs.Walking.{at_hand}
use Rattle.cue_eval.proofs.OtherTexts.{parts_more}
use Rattle.cue_eval.proofs.pair.integers_of_parts.Goals as goal

pub loop-part-preserved : goal.loop-part-preserved
loop-part-preserved c =
    let left = at_hand c.args.parts.now c.loop-part.part-index c.part-item.result c.loop-part-test.true c.part-item.is in
    let rest = drop (c.loop-part.part-index + 1) c.args.parts.now in
    subst (λ numbers. map OtherInteger numbers ++ rest ≡ c.args.parts.now) (sym c.in_ok-push-in-OtherInteger.ensures.items)
    (parts_more OtherInteger c.args.parts.now _ rest c.loop-part.numbers.items c.part-item.result c.in-OtherInteger.written c.loop-part.invariant left c.in-OtherInteger.is)
