use Rattle.std.proofs.Common.{vec_len}
use Rattle.std.specs.Vec.{vec_capacity}
use Rattle.std.specs.Vec.Iter.{into_iter_items, into_iter_len}
use Rattle.cue_table.proofs.Filling.{Puts}
use Rattle.cue_table.proofs.fill.put_in.Given as goal

abbrev pub invariant-loop-change : goal.invariant-loop-change
invariant-loop-change g l = Puts l.initial.children.items l.fn.changes.items l.children.items (into_iter_items l.others) l.at (vec_len l.children) (vec_capacity l.children)

abbrev pub decreases-loop-change : goal.decreases-loop-change
decreases-loop-change g l = into_iter_len l.others
