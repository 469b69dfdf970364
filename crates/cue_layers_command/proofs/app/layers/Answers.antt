use Rattle.std.proofs.lemmas.Result.{IfOk-weaker}
use Rattle.cue_layers_command.proofs.Adding.{added}
use Rattle.cue_layers_command.proofs.app.layers.Goals as goal

pub returns : goal.returns
returns c =
    let one = added c.in_ok-asking.asking c.in_ok-list.list c.in_ok-subcommand.field-0 _ _ c.in_ok-asking.ensures c.in_ok-list.ensures c.in_ok-subcommand.ensures in
    let two = added _ c.in_ok-show.show c.in_ok-subcommand-2.field-0 _ _ one c.in_ok-show.ensures c.in_ok-subcommand-2.ensures in
    IfOk-weaker c.subcommand-3.result _ _ (λ r h. added _ c.in_ok-why.why r _ _ two c.in_ok-why.ensures h) c.subcommand-3.ensures
