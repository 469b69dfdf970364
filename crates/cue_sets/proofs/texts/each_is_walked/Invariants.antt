use Rattle.std.proofs.Common.{◌≡◌, ◌+◌, length}
use Rattle.cue_sets.specs.Inner.Merge.{merge_texts}
use Rattle.cue_sets.proofs.Within.{is_amiss}
use Rattle.cue_sets.proofs.texts.each_is_walked.Given as goal

abbrev pub invariant-loop-left : goal.invariant-loop-left
invariant-loop-left l = merge_texts (is_amiss l.wanted) l.left l.right ≡ merge_texts (is_amiss l.wanted) l.texts l.others

abbrev pub decreases-loop-left : goal.decreases-loop-left
decreases-loop-left l = length l.left + length l.right
