use Rattle.std.proofs.Common.{◌-ℤ◌}
use Rattle.std.specs.Prelude.{unsigned_abs}
use Rattle.cue_sets.specs.Pieces.{greatest}
use Rattle.cue_sets.proofs.Swept.{IsCombined}
use Rattle.cue_sets.proofs.pieces.combine.Given as goal

abbrev pub invariant-loop-pieces : goal.invariant-loop-pieces
invariant-loop-pieces l = IsCombined l.how l.left l.right l.pieces.items l.begun l.from l.on_left l.on_right

abbrev pub decreases-loop-pieces : goal.decreases-loop-pieces
decreases-loop-pieces l = unsigned_abs (greatest -ℤ l.from)
