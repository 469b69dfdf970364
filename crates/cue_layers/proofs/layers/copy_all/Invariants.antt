use Rattle.std.proofs.Common.{◌≡◌, take}
use Rattle.cue_layers.proofs.layers.copy_all.Given as goal

abbrev pub invariant-loop-layer : goal.invariant-loop-layer
invariant-loop-layer l = l.copied.items ≡ take l.layer-index l.layers
