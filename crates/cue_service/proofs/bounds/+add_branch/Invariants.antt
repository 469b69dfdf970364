use Rattle.std.proofs.Common.{◌≤◌}
use Rattle.cue_table.specs.Spans.{branches_of_spans}
use Rattle.cue_table.specs.Tree.{below}
use Rattle.cue_table.specs.Size.{tree_size, children_size}
use Rattle.cue_service.proofs.bounds.+add_branch.Given as goal

abbrev pub decreases-add_branch : goal.decreases-add_branch
decreases-add_branch l = tree_size l.branch.now

abbrev pub invariant-loop-span : goal.invariant-loop-span
invariant-loop-span l = children_size (branches_of_spans l.span-iterator) ≤ children_size (below l.branch)
