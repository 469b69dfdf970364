use Rattle.std.proofs.Common.{◌≡◌, string_bytes}
use Rattle.cue_program.specs.Calls.{names_beside, TriesNames}
use Rattle.cue_program.proofs.temp_file.create_beside.Given as goal

-- so many names were tried, of which this is the last
abbrev pub invariant-loop : goal.invariant-loop
invariant-loop g l = record {
  tried : TriesNames g.S.FileSystem.makes l.fn.place l.counter l.fn.shelf l.shelf;
  named : string_bytes l.draft ≡ names_beside l.counter l.fn.place;
}
