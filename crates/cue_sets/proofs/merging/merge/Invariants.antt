use Rattle.std.proofs.Common.{◌≡◌, ◌+◌, ◌++◌, length}
use Rattle.cue_sets.specs.Inner.Merge.{combination_lists, merge_texts}
use Rattle.cue_sets.specs.Inner.Walk.{left_of}
use Rattle.cue_sets.proofs.merging.merge.Given as goal

abbrev pub invariant-loop-order : goal.invariant-loop-order
invariant-loop-order l =
    l.texts.items ++ merge_texts (combination_lists l.fn.how.how l.fn.how.left_all_but l.fn.how.right_all_but) (left_of l.left) (left_of l.right)
    ≡ merge_texts (combination_lists l.fn.how.how l.fn.how.left_all_but l.fn.how.right_all_but) (left_of l.fn.left) (left_of l.fn.right)

abbrev pub decreases-loop-order : goal.decreases-loop-order
decreases-loop-order l = length (left_of l.left) + length (left_of l.right)
