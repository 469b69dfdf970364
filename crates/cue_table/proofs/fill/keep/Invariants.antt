use Rattle.std.proofs.Common.{vec_len}
use Rattle.std.specs.Vec.{vec_capacity}
use Rattle.std.specs.Vec.Iter.{into_iter_items}
use Rattle.cue_table.proofs.Filling.{Keeps}
use Rattle.cue_table.proofs.fill.keep.Given as goal

abbrev pub invariant-loop-moved : goal.invariant-loop-moved
invariant-loop-moved g l =
    Keeps l.initial.room.items (into_iter_items l.initial.rest) l.count l.room.items (into_iter_items l.rest) l.moved (vec_len l.initial.room) (vec_len l.room) (vec_capacity l.initial.room) (vec_capacity l.room)
