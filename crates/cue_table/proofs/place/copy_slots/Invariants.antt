use Rattle.std.proofs.Common.{◌≡◌, take}
use Rattle.cue_table.proofs.place.copy_slots.Given as goal

abbrev pub invariant-loop-slot : goal.invariant-loop-slot
invariant-loop-slot l = l.copied.items ≡ take l.slot-index l.slots
