use Rattle.cue_sets.specs.Inner.Merge.{combination_lists}
use Rattle.cue_sets.specs.Inner.Walk.{left_of}
use Rattle.cue_sets.proofs.Merged.{IsAscending-merged, is_text_member-merged}
use Rattle.cue_sets.proofs.text_set.TextSet.merge_lists.Goals as goal

pub invariant_of-result : goal.invariant_of-result
invariant_of-result c =
    let how = c.args.lists in
    rw c.in_ok-merge.ensures
    (IsAscending-merged (combination_lists how.how how.left_all_but how.right_all_but) _ _ c.requires.left c.requires.right)

pub returns : goal.returns
returns c = λ text.
    let how = c.args.lists in
    rw (c.in_ok-merge.ensures, c.all_but.ensures)
    (is_text_member-merged how.how (how.left_all_but, left_of c.args.left) (how.right_all_but, left_of c.args.right) text c.requires.left c.requires.right)
