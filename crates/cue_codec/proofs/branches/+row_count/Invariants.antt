use Rattle.std.proofs.Common.{◌≡◌, ◌+◌, ◌≤◌, ◌++◌, length}
use Rattle.cue_table.specs.Spans.{branches_of_spans}
use Rattle.cue_table.specs.Tree.{below, rest_below}
use Rattle.cue_table.specs.Size.{tree_size, children_size}
use Rattle.cue_codec.specs.Entry.{entries_of, entries_below, entries_onward}
use Rattle.cue_codec.specs.Version.{written_version}
use Rattle.cue_codec.proofs.branches.+row_count.Given as goal

abbrev pub decreases-row_count : goal.decreases-row_count
decreases-row_count l = tree_size l.branch.now

-- what was counted and what is left are all
abbrev pub invariant-loop-span : goal.invariant-loop-span
invariant-loop-span l = record {
  counted : l.count + length (entries_below written_version (branches_of_spans l.span-iterator) ++ entries_onward written_version (rest_below l.branch)) ≡ length (entries_of written_version l.branch);
  smaller : children_size (branches_of_spans l.span-iterator) ≤ children_size (below l.branch);
}
