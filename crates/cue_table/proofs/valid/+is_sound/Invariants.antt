use Rattle.std.proofs.Common.{◌≤◌, ◌↔◌}
use Rattle.cue_table.specs.Spans.{branches_of_spans}
use Rattle.cue_table.specs.Tree.{below}
use Rattle.cue_table.specs.Size.{tree_size, children_size}
use Rattle.cue_table.specs.Inner.ValidWalk.{AreSound}
use Rattle.cue_table.proofs.valid.+is_sound.Given as goal

abbrev pub decreases-is_sound : goal.decreases-is_sound
decreases-is_sound l = tree_size l.branch.now

-- what is left decides the others
abbrev pub invariant-loop-span : goal.invariant-loop-span
invariant-loop-span l = record {
  left : AreSound l.row (below l.branch) ↔ AreSound l.row (branches_of_spans l.span-iterator);
  smaller : children_size (branches_of_spans l.span-iterator) ≤ children_size (below l.branch);
}
