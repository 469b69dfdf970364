use Rattle.std.proofs.Common.{◌≡◌, ◌++◌, map}
use Rattle.std.specs.Vec.Iter.{into_iter_items}
use Rattle.cue_row.specs.Steps.{step_of}
use Rattle.cue_table.specs.Slots.{at}
use Rattle.cue_table.specs.SlotsOfCode.{slot_of}
use Rattle.cue_table.proofs.place.Place.of_path.Given as goal

-- what was made and what is left are the path
abbrev pub invariant-loop-step : goal.invariant-loop-step
invariant-loop-step l = map slot_of l.slots.items ++ map at (map step_of (into_iter_items l.step-iterator)) ≡ map at l.fn.path
