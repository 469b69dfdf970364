-- The slots of a place.
use Rattle.std.specs.Prelude.{◌≤◌, length}
use Rattle.cue_lattice.specs.Limits.{step_limit}
use Rattle.cue_row.specs.Steps.{step_of}
use Rattle.cue_table.specs.Slots as slots
use Rattle.cue_table.specs.declared.slot.Slot.{Slot}
use Rattle.cue_table.specs.declared.slot.Slot.TheVariants.{At, From}

-- the slot that a slot of the program stands for
abbrev pub slot_of : Slot → slots.Slot
slot_of (At step) = slots.at (step_of step)
slot_of (From number) = slots.from number

-- the place is one of the program: it has not too many slots
abbrev pub IsWithinDepth : slots.Place → Type 0
IsWithinDepth place = length place ≤ step_limit
