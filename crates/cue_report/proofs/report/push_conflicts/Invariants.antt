use Rattle.std.proofs.Common.{◌≡◌, ◌++◌, take, string_bytes}
use Rattle.std.specs.List.{flat_map}
use Rattle.cue_report.specs.Lines.{conflict_line}
use Rattle.cue_report.proofs.report.push_conflicts.Given as goal

abbrev pub invariant-loop-conflict : goal.invariant-loop-conflict
invariant-loop-conflict l =
    string_bytes l.out ≡ string_bytes l.initial.out ++ flat_map conflict_line (take l.conflict-index l.conflicts)
