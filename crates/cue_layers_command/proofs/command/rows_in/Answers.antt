use Rattle.std.proofs.Common.{◌∙◌, sym}
use Rattle.cue_layers_command.proofs.Numbers.{rows_are}
use Rattle.cue_layers_command.proofs.command.rows_in.Goals as goal

pub returns : goal.returns
returns c =
    c.ok.ensures.value
    ∙ rows_are c.args.word.now c.parse.result c.parse.ensures.value.0 (sym c.is_digits.ensures ∙ c.if-not-is_digits.false) (sym c.is_empty.ensures ∙ c.if-is_empty.false)
