use Rattle.std.proofs.lemmas.Result.{IfOk-weaker}
use Rattle.cue_layers_command.proofs.Adding.{added}
use Rattle.cue_layers_command.proofs.app.add_question_commands.Goals as goal

pub returns : goal.returns
returns c =
    let one = added c.in_ok-changing.changing c.in_ok-export.export c.in_ok-subcommand.field-0 _ _ c.in_ok-changing.ensures c.in_ok-export.ensures c.in_ok-subcommand.ensures in
    let two = added _ c.in_ok-report.report c.in_ok-subcommand-2.field-0 _ _ one c.in_ok-report.ensures c.in_ok-subcommand-2.ensures in
    IfOk-weaker c.subcommand-3.result _ _ (λ r h. added _ c.in_ok-print.print r _ _ two c.in_ok-print.ensures h) c.subcommand-3.ensures
