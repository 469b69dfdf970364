use Rattle.std.proofs.lemmas.Result.{IfOk-weaker}
use Rattle.cue_layers_command.proofs.Adding.{added}
use Rattle.cue_layers_command.proofs.app.add_change_commands.Goals as goal

pub returns : goal.returns
returns c =
    let one = added c.base_app.result c.in_ok-put.put c.in_ok-subcommand.field-0 _ _ c.base_app.ensures c.in_ok-put.ensures c.in_ok-subcommand.ensures in
    let two = added _ c.in_ok-remove.remove c.in_ok-subcommand-2.field-0 _ _ one c.in_ok-remove.ensures c.in_ok-subcommand-2.ensures in
    let three = added _ c.in_ok-attempt.attempt c.in_ok-subcommand-3.field-0 _ _ two c.in_ok-attempt.ensures c.in_ok-subcommand-3.ensures in
    IfOk-weaker c.subcommand-4.result _ _ (λ r h. added _ c.in_ok-merge.merge r _ _ three c.in_ok-merge.ensures h) c.subcommand-4.ensures
