use Rattle.std.proofs.Common.{◌≡◌, take}
use Rattle.std.specs.List.{concat}
use Rattle.cue_program.specs.Files.{texts_of_files}
use Rattle.cue_layers_program.proofs.difference.whole.Given as goal

abbrev pub invariant-loop-line : goal.invariant-loop-line
invariant-loop-line l = l.bytes.items ≡ concat (texts_of_files (take l.line-index l.lines))
