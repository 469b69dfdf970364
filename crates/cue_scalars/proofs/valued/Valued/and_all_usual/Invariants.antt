use Rattle.std.proofs.Common.{◌≡◌, ◌++◌, map}
use Rattle.std.specs.Vec.Iter.{into_iter_items}
use Rattle.cue_scalars.specs.Scalars.{members}
use Rattle.cue_scalars.proofs.Conjunctions.{lets, brings}
use Rattle.cue_scalars.proofs.valued.Valued.and_all_usual.Given as goal

-- the sets that are moved, and those that are left, are those of all values
abbrev pub invariant-loop-valued : goal.invariant-loop-valued
invariant-loop-valued l = record {
  sets : map members l.sets.items ++ map lets (into_iter_items l.valued-iterator) ≡ map lets l.fn.values.items;
  usuals : map members l.usuals.items ++ map brings (into_iter_items l.valued-iterator) ≡ map brings l.fn.values.items;
}
