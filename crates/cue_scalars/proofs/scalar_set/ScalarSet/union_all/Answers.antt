use Rattle.std.proofs.Common.{◌≡◌, length, rules}
use Rattle.std.specs.Vec.Iter.{into_iter_items}
use Rattle.cue_scalars.proofs.Unions.{union_of_parts}
use Rattle.cue_scalars.proofs.scalar_set.ScalarSet.union_all.Goals as goal

pub returns : goal.returns
returns c =
    let none : length (into_iter_items c.loop-set.set-iterator) ≡ 0 = search rules in
    union_of_parts _ c.loop-set.ints.items c.loop-set.texts.items (into_iter_items c.loop-set.set-iterator) c.args.sets.items none c.loop-set.invariant c.in_ok-union_all.ensures c.in_ok-union_all-2.ensures
