use Rattle.std.proofs.Common.{◌-◌, ◌≤◌}
use Rattle.cue_table.proofs.Sides.{HasFound}
use Rattle.cue_table.proofs.lists.alike_end.Given as goal

-- both places are alike so far
abbrev pub invariant-loop-end : goal.invariant-loop-end
invariant-loop-end g l = record {
  low : l.end ≤ l.fixed;
  left : HasFound l.initial.left.place.now l.first l.end l.left;
  right : HasFound l.initial.right.place.now l.first l.end l.right;
}

abbrev pub decreases-loop-end : goal.decreases-loop-end
decreases-loop-end g l = l.fixed - l.end
