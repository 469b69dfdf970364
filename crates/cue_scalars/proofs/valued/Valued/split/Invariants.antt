use Rattle.std.proofs.Common.{◌≡◌, ◌++◌, map}
use Rattle.std.specs.Vec.Iter.{into_iter_items}
use Rattle.cue_scalars.specs.Scalars.{members}
use Rattle.cue_scalars.specs.Inner.Lists.{value_of, AreWithin}
use Rattle.cue_scalars.proofs.Disjunctions.{defaults_of}
use Rattle.cue_scalars.proofs.valued.Valued.split.Given as goal

-- what is split and what is left are all terms
abbrev pub invariant-loop-marked : goal.invariant-loop-marked
invariant-loop-marked l = record {
  values : map members l.values.items ++ map value_of (into_iter_items l.marked-iterator) ≡ map value_of l.fn.terms.items;
  usuals : map members l.usuals.items ++ defaults_of l.fn.any_marked (into_iter_items l.marked-iterator) ≡ defaults_of l.fn.any_marked l.fn.terms.items;
  within : AreWithin l.usuals.items l.values.items;
}
