use Rattle.std.proofs.Common.{◌≡◌, ◌≤◌, ◌++◌, ◌-◌, length, map}
use Rattle.std.specs.List.{flat_map, AllByRecursion}
use Rattle.cue_table.specs.SlotsOfCode.{slot_of}
use Rattle.cue_codec.specs.Entry.{path_of_place}
use Rattle.cue_codec.specs.Known.{IsIndexKnown}
use Rattle.cue_codec.specs.Parts.{step_bytes}
use Rattle.cue_codec.specs.StateRow.{IsStateStep}
use Rattle.cue_codec.proofs.paths.each_step.Given as goal

abbrev pub invariant-loop-alloc : goal.invariant-loop-alloc
invariant-loop-alloc l = record {
  few : length l.slots.items ≤ l.count;
  each : AllByRecursion (IsStateStep l.version) (path_of_place (map slot_of l.slots.items));
  numbers : IsIndexKnown l.known (map slot_of l.slots.items);
  parts : l.bytes ≡ flat_map (step_bytes l.version) (path_of_place (map slot_of l.slots.items)) ++ l.rest;
}

abbrev pub decreases-loop-alloc : goal.decreases-loop-alloc
decreases-loop-alloc l = l.count - length l.slots.items
