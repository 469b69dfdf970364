use Rattle.std.proofs.Common.{◌≡◌, ◌≤◌, ◌++◌, All, map}
use Rattle.std.specs.Vec.Iter.{into_iter_items}
use Rattle.cue_lattice.specs.Limits.{step_limit}
use Rattle.cue_table.specs.Depth.{tree_depth}
use Rattle.cue_why.specs.Inner.Saying.{pair_of}
use Rattle.cue_layers_why.specs.Why.{part_pair}
use Rattle.cue_layers_why.proofs.naming.layer_parts.Given as goal

abbrev pub invariant-loop-part : goal.invariant-loop-part
invariant-loop-part l = record {
  same : map part_pair l.own.items ++ map pair_of (into_iter_items l.part-iterator) ≡ map pair_of l.fn.parts.items;
  low : All (λ part. tree_depth part.branch ≤ step_limit) (into_iter_items l.part-iterator);
}
