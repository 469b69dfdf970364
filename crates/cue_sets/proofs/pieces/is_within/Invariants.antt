use Rattle.std.proofs.Common.{◌-ℤ◌}
use Rattle.std.specs.Prelude.{unsigned_abs}
use Rattle.cue_sets.specs.Pieces.{greatest}
use Rattle.cue_sets.proofs.Inside.{IsInside}
use Rattle.cue_sets.proofs.pieces.is_within.Given as goal

abbrev pub invariant-sweep : goal.invariant-sweep
invariant-sweep l = IsInside l.left l.right l.from l.on_left l.on_right

abbrev pub decreases-sweep : goal.decreases-sweep
decreases-sweep l = unsigned_abs (greatest -ℤ l.from)
