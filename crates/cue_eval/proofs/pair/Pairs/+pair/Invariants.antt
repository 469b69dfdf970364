use Rattle.std.proofs.Common.{drop}
use Rattle.cue_syntax.specs.Syntax.{branches_of_list}
use Rattle.cue_eval.proofs.Pairing.{PairingParts, PairingTerms}
use Rattle.cue_eval.proofs.pair.Pairs.+pair.Given as goal

abbrev pub invariant-conjunction-loop-part : goal.invariant-conjunction-loop-part
invariant-conjunction-loop-part l = PairingParts l.self l.pairs.items l.parts (drop l.part-index l.parts)

abbrev pub invariant-disjunction-loop-term : goal.invariant-disjunction-loop-term
invariant-disjunction-loop-term l = PairingTerms l.self l.pairs.items l.terms (branches_of_list (drop l.term-index l.terms))
