use Rattle.std.proofs.Common.{take}
use Rattle.cue_layers.proofs.Naming.{IsSoFar}
use Rattle.cue_layers.proofs.names.bad_place.Given as goal

abbrev pub invariant-loop-i : goal.invariant-loop-i
invariant-loop-i l = IsSoFar (take l.i l.name) l.before
