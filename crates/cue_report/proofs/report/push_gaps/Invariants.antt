use Rattle.std.proofs.Common.{◌≡◌, ◌++◌, take, string_bytes}
use Rattle.std.specs.List.{flat_map}
use Rattle.cue_report.specs.Lines.{gap_line}
use Rattle.cue_report.proofs.report.push_gaps.Given as goal

abbrev pub invariant-loop-gap : goal.invariant-loop-gap
invariant-loop-gap l = string_bytes l.out ≡ string_bytes l.initial.out ++ flat_map gap_line (take l.gap-index l.gaps)
