use Rattle.std.proofs.Common.{length}
use Rattle.cue_sets.proofs.United.{AreUnited}
use Rattle.cue_sets.proofs.uniting.unite.Given as goal

abbrev pub invariant-loop-next : goal.invariant-loop-next
invariant-loop-next l = AreUnited l.pieces.items l.held l.rest l.fn.sorted

abbrev pub decreases-loop-next : goal.decreases-loop-next
decreases-loop-next l = length l.rest
