use Rattle.std.proofs.Common.{◌≡◌, length, rules}
use Rattle.std.specs.Vec.Iter.{into_iter_items}
use Rattle.cue_scalars.proofs.Conjunctions.{lets, all_plain}
use Rattle.cue_scalars.proofs.Moved.{sets_all}
use Rattle.cue_scalars.proofs.valued.Valued.and_all_plain.Goals as goal

pub returns : goal.returns
returns c =
    let none : length (into_iter_items c.loop-valued.valued-iterator) ≡ 0 = search rules in
    let sets = sets_all lets c.loop-valued.sets.items (into_iter_items c.loop-valued.valued-iterator) c.args.values.items none c.loop-valued.invariant in
    all_plain c.args.values.items c.loop-valued.sets.items c.in_ok-meet_all.field-0 c.requires.plain sets c.in_ok-meet_all.ensures
