use Rattle.std.proofs.Common.{◌≡◌, ◌++◌, length}
use Rattle.cue_program.specs.Files.{texts_of_files}
use Rattle.cue_program.specs.Parts.{lines_of}
use Rattle.cue_layers_program.proofs.difference.split_lines.Given as goal

-- the lines so far and those of the rest are all
abbrev pub invariant-loop-rest : goal.invariant-loop-rest
invariant-loop-rest l = texts_of_files l.lines.items ++ lines_of l.rest ≡ lines_of l.fn.bytes

abbrev pub decreases-loop-rest : goal.decreases-loop-rest
decreases-loop-rest l = length l.rest
