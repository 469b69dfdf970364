use Rattle.cue_table.specs.SlotsOfCode.{slot_of}
use Rattle.cue_table.proofs.Drafting.{opened_one}
use Rattle.cue_table.proofs.open.open_along.Goals as goal

pub loop-slot-preserved : goal.loop-slot-preserved
loop-slot-preserved g c =
    opened_one c.args.slots.now c.loop-slot.slot-index slot_of c.slot-item.result c.in_ok-slot.slot c.loop-slot.above.items c.push.new.self.items _ c.new.result
    c.loop-slot-test.true c.slot-item.is c.in_ok-slot.ensures c.in_ok-push.ensures.items c.new.ensures c.loop-slot.invariant
