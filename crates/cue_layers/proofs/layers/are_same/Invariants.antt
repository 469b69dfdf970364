use Rattle.std.proofs.Common.{◌≡◌, take}
use Rattle.cue_layers.proofs.layers.are_same.Given as goal

abbrev pub invariant-loop-i : goal.invariant-loop-i
invariant-loop-i l = take l.i l.layers ≡ take l.i l.others
