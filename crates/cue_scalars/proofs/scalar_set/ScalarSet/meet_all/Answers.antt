use Rattle.std.proofs.Common.{◌≡◌, length, rules}
use Rattle.std.specs.Vec.Iter.{into_iter_items}
use Rattle.cue_scalars.proofs.Meets.{meet_of_parts, some_ints}
use Rattle.cue_scalars.proofs.scalar_set.ScalarSet.meet_all.Goals as goal

pub meet_all-requires : goal.meet_all-requires
meet_all-requires c =
    let none : length (into_iter_items c.loop-set.set-iterator) ≡ 0 = search rules in
    some_ints _ _ _ c.loop-set.ints.items c.loop-set.texts.items (into_iter_items c.loop-set.set-iterator) c.args.sets.items none c.loop-set.invariant c.requires

pub returns : goal.returns
returns c =
    let none : length (into_iter_items c.loop-set.set-iterator) ≡ 0 = search rules in
    meet_of_parts _ c.loop-set.ints.items c.loop-set.texts.items (into_iter_items c.loop-set.set-iterator) c.args.sets.items none c.loop-set.invariant c.in_ok-meet_all.ensures c.in_ok-meet_all-2.ensures
