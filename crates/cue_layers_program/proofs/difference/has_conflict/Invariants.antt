use Rattle.std.proofs.Common.{◌≡◌, false, take}
use Rattle.std.specs.List.{list_any}
use Rattle.cue_program.specs.Files.{texts_of_files}
use Rattle.cue_layers_program.specs.Tries.{is_conflict}
use Rattle.cue_layers_program.proofs.difference.has_conflict.Given as goal

abbrev pub invariant-loop-line : goal.invariant-loop-line
invariant-loop-line l = list_any is_conflict (texts_of_files (take l.line-index l.lines)) ≡ false
