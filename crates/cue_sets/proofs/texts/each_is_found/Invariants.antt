use Rattle.cue_sets.proofs.Within.{ListedBefore}
use Rattle.cue_sets.proofs.texts.each_is_found.Given as goal

abbrev pub invariant-loop-text : goal.invariant-loop-text
invariant-loop-text l = ListedBefore l.text-index l.texts l.others l.wanted
