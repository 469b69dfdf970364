use Rattle.std.proofs.Common.{drop}
use Rattle.cue_eval.proofs.IntegerTerms.{AreIntegersSoFar}
use Rattle.cue_eval.proofs.pair.integers_of_terms.Given as goal

abbrev pub invariant-loop-term : goal.invariant-loop-term
invariant-loop-term l = AreIntegersSoFar l.terms l.numbers.items (drop l.term-index l.terms)
