use Rattle.std.proofs.Common.{◌++◌, ◌∙◌, ap}
use Rattle.cue_print.specs.Printed.{file_of}
use Rattle.cue_print.specs.Spelled.{file_text}
use Rattle.cue_print.proofs.file.print.Goals as goal

pub returns : goal.returns
returns c = c.in_ok-print_to.ensures.told ∙ ap (λ t. t ++ file_text (file_of c.args.table.now)) c.new-out.ensures.bytes
