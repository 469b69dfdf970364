use Rattle.std.proofs.Common.{◌≡◌, ◌≤◌, max}
use Rattle.cue_table.specs.Spans.{branches_of_spans}
use Rattle.cue_table.specs.Tree.{below}
use Rattle.cue_table.specs.Size.{tree_size, children_size}
use Rattle.cue_table.specs.Depth.{children_depth}
use Rattle.cue_table.proofs.measure.+depth_of.Given as goal

abbrev pub decreases-depth_of : goal.decreases-depth_of
decreases-depth_of g l = tree_size l.branch.now

-- what was walked and what is left are as deep as all
abbrev pub invariant-loop-below : goal.invariant-loop-below
invariant-loop-below g l = record {
  deepest : max l.depth (children_depth (branches_of_spans l.below-iterator)) ≡ children_depth (below l.branch);
  smaller : children_size (branches_of_spans l.below-iterator) ≤ children_size (below l.branch);
}
