use Rattle.std.proofs.Common.{◌≤◌, ◌++◌}
use Rattle.cue_table.specs.Tree.{below, rest_below}
use Rattle.cue_table.specs.Size.{tree_size, children_size}
use Rattle.cue_codec.specs.Entry.{entries_below, entries_onward, indexes_of}
use Rattle.cue_codec.proofs.ReadIndexes.{indexes, SameEnds}
use Rattle.cue_codec.proofs.telling.+after_branch.Given as goal

abbrev pub decreases-after_branch : goal.decreases-after_branch
decreases-after_branch l = tree_size l.branch.now

-- what stands after the branches that are left stands after all
abbrev pub invariant-loop-below : goal.invariant-loop-below
invariant-loop-below l = record {
  ends : SameEnds l.indexes (indexes_of l.version l.branch) l.rest (indexes (entries_below l.version l.below-iterator ++ entries_onward l.version (rest_below l.branch)));
  smaller : children_size l.below-iterator ≤ children_size (below l.branch);
}
