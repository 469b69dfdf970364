use Rattle.std.proofs.Common.{vec_len}
use Rattle.std.specs.Vec.{vec_capacity}
use Rattle.std.specs.Vec.Iter.{into_iter_items, into_iter_len}
use Rattle.cue_table.proofs.Filling.{Fills}
use Rattle.cue_table.proofs.fill.merge.Given as goal

abbrev pub invariant-loop-change : goal.invariant-loop-change
invariant-loop-change g l =
    Fills l.fn.old.items l.fn.changes.items l.room.items (into_iter_items l.rest) (into_iter_items l.others) (vec_len l.room) (vec_capacity l.room)

abbrev pub decreases-loop-change : goal.decreases-loop-change
decreases-loop-change g l = into_iter_len l.others
