use Rattle.std.proofs.Common.{arith}
use Rattle.cue_eval.proofs.IntegerTerms.{sets_all, set_united}
use Rattle.cue_eval.proofs.pair.set_of_integers.Goals as goal

pub returns : goal.returns
returns c =
    let end = c.loop-number-test.false in
    set_united c.union_all.result c.loop-number.sets.items c.args.numbers.now
    (sets_all c.loop-number.sets.items c.args.numbers.now c.loop-number.number-index c.loop-number.invariant (omega arith)) c.union_all.ensures
