use Rattle.std.proofs.Common.{◌≡◌, length, rules}
use Rattle.std.specs.Vec.Iter.{into_iter_items}
use Rattle.cue_scalars.proofs.Conjunctions.{lets, brings, all_usual, all_usual_within}
use Rattle.cue_scalars.proofs.Moved.{sets_all}
use Rattle.cue_scalars.proofs.valued.Valued.and_all_usual.Goals as goal

pub invariant_of-result : goal.invariant_of-result
invariant_of-result c =
    let left = into_iter_items c.loop-valued.valued-iterator in
    let none : length left ≡ 0 = search rules in
    let sets = sets_all lets c.loop-valued.sets.items left c.args.values.items none c.loop-valued.invariant.sets in
    let usuals = sets_all brings c.loop-valued.usuals.items left c.args.values.items none c.loop-valued.invariant.usuals in
    record { within = all_usual_within c.args.values.items c.loop-valued.sets.items c.loop-valued.usuals.items c.in_ok-value-2.value c.in_ok-usual.usual sets usuals c.in_ok-value-2.ensures c.in_ok-usual.ensures }

pub returns : goal.returns
returns c =
    let left = into_iter_items c.loop-valued.valued-iterator in
    let none : length left ≡ 0 = search rules in
    let sets = sets_all lets c.loop-valued.sets.items left c.args.values.items none c.loop-valued.invariant.sets in
    let usuals = sets_all brings c.loop-valued.usuals.items left c.args.values.items none c.loop-valued.invariant.usuals in
    all_usual c.args.values.items c.loop-valued.sets.items c.loop-valued.usuals.items c.in_ok-value-2.value c.in_ok-usual.usual c.requires.given sets usuals c.in_ok-value-2.ensures c.in_ok-usual.ensures
