use Rattle.std.proofs.Common.{◌≡◌, ◌≤◌, ◌++◌, ◌-◌, length}
use Rattle.std.specs.List.{flat_map}
use Rattle.cue_layers.specs.Bytes.{layer_bytes}
use Rattle.cue_layers.specs.Inner.Reading.{AreFront}
use Rattle.cue_layers.proofs.reading.each_layer.Given as goal

abbrev pub invariant-loop-alloc : goal.invariant-loop-alloc
invariant-loop-alloc l = record {
  front : AreFront l.layers.items;
  few : length l.layers.items ≤ l.count;
  parts : l.bytes ≡ flat_map layer_bytes l.layers.items ++ l.rest;
}

abbrev pub decreases-loop-alloc : goal.decreases-loop-alloc
decreases-loop-alloc l = l.count - length l.layers.items
