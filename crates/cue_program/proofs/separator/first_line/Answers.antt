use Rattle.std.proofs.Common.{◌∙◌, sym}
use Rattle.cue_program.proofs.Lines.{line_found, line_whole}
use Rattle.cue_program.proofs.separator.first_line.Goals as goal

pub returns-in-Some-clause-lines : goal.returns-in-Some-clause-lines
returns-in-Some-clause-lines c =
    rw (c.split_at.ensures.front, c.split_at.ensures.back) (line_found c.args.bytes.now c.in-Some.length (sym c.line_break.ensures ∙ c.in-Some.is))

pub returns-in-None-clause-lines : goal.returns-in-None-clause-lines
returns-in-None-clause-lines c = line_whole c.args.bytes.now c.requires (sym c.line_break.ensures ∙ c.in-None.is)
