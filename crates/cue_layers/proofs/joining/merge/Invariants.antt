use Rattle.std.proofs.Common.{◌+◌, ◌≤◌, length, vec_len, vec_capacity}
use Rattle.cue_layers.specs.Inner.Merging.{HaveTies}
use Rattle.cue_layers.specs.Layers.{IsInOrder}
use Rattle.cue_layers.proofs.Merged.{IsSoFar}
use Rattle.cue_layers.proofs.joining.merge.Given as goal

abbrev pub invariant-loop-layer : goal.invariant-loop-layer
invariant-loop-layer l = record {
  own : IsInOrder l.own.items;
  others : IsInOrder l.others.items;
  ties : HaveTies l.own.items l.others.items;
  so_far : IsSoFar l.fn.own.items l.fn.others.items l.own.items l.others.items l.merged.items;
  room : vec_len l.merged + vec_len l.own + vec_len l.others ≤ vec_capacity l.merged;
}

abbrev pub decreases-loop-layer : goal.decreases-loop-layer
decreases-loop-layer l = length l.own.items + length l.others.items
