use Rattle.std.proofs.Common.{vec_len}
use Rattle.std.specs.Vec.{vec_capacity}
use Rattle.std.specs.Vec.Iter.{into_iter_items}
use Rattle.cue_table.proofs.Filling.{puts_more}
use Rattle.cue_table.proofs.fill.put_in.Goals as goal

pub loop-change-preserved : goal.loop-change-preserved
loop-change-preserved g c =
    puts_more c.args.children.now.items c.loop-change.children.items c.put_at.new.children.items c.args.changes.items (into_iter_items c.loop-change.others) (into_iter_items c.next.new.self) c.in-Some.change c.loop-change.at (vec_len c.loop-change.children) (vec_len c.put_at.new.children) (vec_capacity c.loop-change.children) (vec_capacity c.put_at.new.children)
    c.loop-change.invariant c.in-Some.ensures.items c.put_at.ensures.before c.put_at.ensures.from c.put_at.ensures.len c.put_at.ensures.capacity
