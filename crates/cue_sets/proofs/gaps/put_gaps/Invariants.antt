use Rattle.std.proofs.Common.{length}
use Rattle.cue_sets.proofs.LeftOut.{AreGaps}
use Rattle.cue_sets.proofs.gaps.put_gaps.Given as goal

abbrev pub invariant-loop-first : goal.invariant-loop-first
invariant-loop-first l = AreGaps l.gaps.items l.from l.rest l.fn.gaps.items l.fn.pieces

abbrev pub decreases-loop-first : goal.decreases-loop-first
decreases-loop-first l = length l.rest
