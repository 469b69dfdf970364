use Rattle.std.proofs.Common.{◌≡◌, ◌≤◌, ◌++◌, map, take}
use Rattle.std.specs.List.{flat_map}
use Rattle.cue_table.specs.SlotsOfCode.{slot_of}
use Rattle.cue_codec.specs.declared.version.Version.{Version}
use Rattle.cue_codec.specs.Entry.{path_of_place}
use Rattle.cue_codec.specs.Parts.{step_bytes}
use Rattle.cue_codec.proofs.paths.skip_shared.Given as goal

-- so many steps were found
abbrev pub invariant-loop-slot : goal.invariant-loop-slot
invariant-loop-slot l = record {
  counted : l.len ≡ l.slot-index;
  most : l.len ≤ l.count;
  parts : (version : Version) → l.bytes ≡ flat_map (step_bytes version) (path_of_place (map slot_of (take l.len l.slots))) ++ l.rest;
}
