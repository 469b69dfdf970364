use Rattle.std.proofs.Common.{◌≤◌, ◌-◌, length}
use Rattle.cue_table.proofs.near.near_end.Given as goal

abbrev pub invariant-loop-end : goal.invariant-loop-end
invariant-loop-end g l = 1 ≤ l.end

abbrev pub decreases-loop-end : goal.decreases-loop-end
decreases-loop-end g l = length l.children - l.end
