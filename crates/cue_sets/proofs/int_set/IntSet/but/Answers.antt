use Rattle.std.proofs.Common.{arith}
use Rattle.std.proofs.lemmas.Int.{ints}
use Rattle.cue_sets.proofs.PieceTests.{is_member-round}
use Rattle.cue_sets.proofs.int_set.IntSet.but.Goals as goal

pub returns-in_ok-push-in_default-2 : goal.returns-in_ok-push-in_default-2
returns-in_ok-push-in_default-2 c = λ n.
    rw (c.in_ok-push-in_default-2.ensures.items, c.in_ok-push-in_default.ensures.items, c.in_ok-pieces-in_default.ensures.items)
    (is_member-round c.args.number _ _ (omega (arith, ints)) (omega (arith, ints)) (omega (arith, ints)) (omega (arith, ints)) n)
