use Rattle.std.proofs.Common.{vec_len}
use Rattle.std.specs.Vec.{vec_capacity}
use Rattle.std.specs.Vec.Iter.{into_iter_items}
use Rattle.cue_table.proofs.Filling.{keeps_more}
use Rattle.cue_table.proofs.fill.keep.Goals as goal

pub loop-moved-preserved : goal.loop-moved-preserved
loop-moved-preserved g c =
    keeps_more c.args.room.now.items (into_iter_items c.args.rest.now) c.loop-moved.room.items c.push_reserved.new.self.items (into_iter_items c.loop-moved.rest) (into_iter_items c.next.new.self) c.in-Some.child c.args.count c.loop-moved.moved (vec_len c.args.room.now) (vec_len c.loop-moved.room) (vec_len c.push_reserved.new.self) (vec_capacity c.args.room.now) (vec_capacity c.loop-moved.room) (vec_capacity c.push_reserved.new.self)
    c.loop-moved.invariant c.loop-moved-test.true c.in-Some.ensures.cases.0 c.push_reserved.ensures.items c.push_reserved.ensures.len c.push_reserved.ensures.capacity
