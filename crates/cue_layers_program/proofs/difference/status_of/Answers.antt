use Rattle.std.proofs.Common.{sym, ◌∙◌, arith}
use Rattle.cue_program.specs.Files.{texts_of_files}
use Rattle.cue_layers_program.proofs.Lines.{with_conflict, with_gaps}
use Rattle.cue_layers_program.proofs.difference.status_of.Goals as goal

pub returns-then-has_conflict : goal.returns-then-has_conflict
returns-then-has_conflict c = with_conflict (texts_of_files c.args.lines.now) (sym c.has_conflict.ensures ∙ c.if-has_conflict.true)
