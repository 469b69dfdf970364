use Rattle.cue_table.specs.Tree.{below}
use Rattle.cue_table.specs.Size.{tree_size}
use Rattle.cue_policies.specs.Inner.Misplaced.{IsLeft}
use Rattle.cue_policies.proofs.misplaced.+find_in.Given as goal

abbrev pub decreases-find_in : goal.decreases-find_in
decreases-find_in l = tree_size l.branch.now

abbrev pub invariant-loop-span : goal.invariant-loop-span
invariant-loop-span l = IsLeft l.in_list (below l.branch) l.span-iterator
