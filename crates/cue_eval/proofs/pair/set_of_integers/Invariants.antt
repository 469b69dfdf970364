use Rattle.std.proofs.Common.{take}
use Rattle.cue_eval.proofs.IntegerTerms.{AreSetsSoFar}
use Rattle.cue_eval.proofs.pair.set_of_integers.Given as goal

abbrev pub invariant-loop-number : goal.invariant-loop-number
invariant-loop-number l = AreSetsSoFar l.sets.items (take l.number-index l.numbers)
