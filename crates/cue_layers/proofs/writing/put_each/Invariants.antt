use Rattle.std.proofs.Common.{◌≡◌, ◌++◌, take}
use Rattle.std.specs.List.{flat_map}
use Rattle.cue_layers.specs.Bytes.{layer_bytes}
use Rattle.cue_layers.proofs.writing.put_each.Given as goal

abbrev pub invariant-loop-layer : goal.invariant-loop-layer
invariant-loop-layer l = l.out.items ≡ l.fn.out.items ++ flat_map layer_bytes (take l.layer-index l.layers)
