use Rattle.std.proofs.Common.{vec_len}
use Rattle.std.specs.Vec.{vec_capacity}
use Rattle.std.specs.Vec.Iter.{into_iter_items}
use Rattle.cue_sets.proofs.Joined.{Joins}
use Rattle.cue_sets.proofs.joining.put_each.Given as goal

abbrev pub invariant-loop-text : goal.invariant-loop-text
invariant-loop-text l =
    Joins l.initial.texts.items l.fn.more.items l.texts.items (into_iter_items l.text-iterator) (vec_len l.texts) (vec_capacity l.texts)
