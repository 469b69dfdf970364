use Rattle.cue_device.proofs.Texts.{begins_now, begins_later}
use Rattle.cue_device.proofs.Telling.{on_err}
use Rattle.cue_print.proofs.free.push_free_list.Goals as goal

pub returns-in_err-put-clause-begun : goal.returns-in_err-put-clause-begun
returns-in_err-put-clause-begun g c =
    on_err _ (begins_now _ _ _ _ c.in_err-put.ensures.begun)

pub returns-in_err-push_free_elements-clause-begun : goal.returns-in_err-push_free_elements-clause-begun
returns-in_err-push_free_elements-clause-begun g c =
    on_err _ (begins_later _ _ _ _ _ c.in_ok-put.ensures.told (begins_now _ _ _ _ c.in_err-push_free_elements.ensures.begun))

pub returns-in_err-put-2-clause-begun : goal.returns-in_err-put-2-clause-begun
returns-in_err-put-2-clause-begun g c =
    on_err _ (begins_later _ _ _ _ _ c.in_ok-put.ensures.told (begins_later _ _ _ _ _ c.in_ok-push_free_elements.ensures.told c.in_err-put-2.ensures.begun))
