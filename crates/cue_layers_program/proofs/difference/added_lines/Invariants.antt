use Rattle.std.proofs.Common.{◌≡◌, not}
use Rattle.std.specs.List.{filter}
use Rattle.cue_program.specs.Files.{texts_of_files}
use Rattle.cue_program.specs.Parts.{lines_of}
use Rattle.cue_layers_program.specs.Tries.{is_among}
use Rattle.cue_layers_program.proofs.difference.added_lines.Given as goal

abbrev pub invariant-loop-line : goal.invariant-loop-line
invariant-loop-line l =
    texts_of_files l.kept.items ≡ filter (λ line. not (is_among (lines_of l.fn.former) line)) (texts_of_files l.yielded)
