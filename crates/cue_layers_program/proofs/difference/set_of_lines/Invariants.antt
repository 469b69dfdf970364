use Rattle.cue_program.specs.Files.{texts_of_files}
use Rattle.cue_layers_program.specs.Inner.Lines.{HasLines}
use Rattle.cue_layers_program.proofs.difference.set_of_lines.Given as goal

abbrev pub invariant-loop-line : goal.invariant-loop-line
invariant-loop-line l = HasLines (texts_of_files l.yielded) l.known
