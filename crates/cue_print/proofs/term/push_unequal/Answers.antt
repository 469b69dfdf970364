use Rattle.std.proofs.Common.{ap}
use Rattle.cue_device.proofs.Texts.{begins_now, begins_later}
use Rattle.cue_device.proofs.Telling.{on_err, begins_as}
use Rattle.cue_row.specs.Quoted.{quote_text}
use Rattle.cue_print.proofs.term.push_unequal.Goals as goal

pub returns-in_err-put-clause-begun : goal.returns-in_err-put-clause-begun
returns-in_err-put-clause-begun g c =
    on_err _ (begins_now _ _ _ _ c.in_err-put.ensures.begun)

pub returns-in_err-push_text-clause-begun : goal.returns-in_err-push_text-clause-begun
returns-in_err-push_text-clause-begun g c =
    on_err _ (begins_later _ _ _ _ _ c.in_ok-put.ensures.told (begins_as _ _ _ _ (ap quote_text c.as_str.ensures) c.in_err-push_text.ensures.begun))
