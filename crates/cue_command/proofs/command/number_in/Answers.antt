use Rattle.std.proofs.Common.{sym, ◌∙◌}
use Rattle.cue_command.proofs.Numbers.{no_number}
use Rattle.cue_command.proofs.command.number_in.Goals as goal

pub returns-in_default-3 : goal.returns-in_default-3
returns-in_default-3 c =
    no_number c.args.most c.args.word.now c.parse.result c.in_default.field-0 c.in_default.is c.parse.ensures.value.0
    (sym c.is_digits.ensures ∙ c.if-not-is_digits.false) c.ranges.most.fits
