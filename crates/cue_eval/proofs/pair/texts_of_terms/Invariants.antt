use Rattle.std.proofs.Common.{drop}
use Rattle.cue_eval.proofs.TextTerms.{AreTextsSoFar}
use Rattle.cue_eval.proofs.pair.texts_of_terms.Given as goal

abbrev pub invariant-loop-term : goal.invariant-loop-term
invariant-loop-term l = AreTextsSoFar l.terms l.texts.items (drop l.term-index l.terms)
