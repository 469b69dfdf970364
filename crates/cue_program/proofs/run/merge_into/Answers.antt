use Rattle.std.proofs.Common.{inl, inr, refl}
use Rattle.cue_wire.proofs.Connections.{err_on}
use Rattle.cue_program.proofs.SubmittedInputs.{ok_more, err_both}
use Rattle.cue_program.proofs.run.merge_into.Goals as goal

pub returns-in_err-site-clause-stop : goal.returns-in_err-site-clause-stop
returns-in_err-site-clause-stop g c = err_on c.from_residual.result c.in_err-site.field-0.0 _ c.from_residual.ensures.1 (inl (c.in_err-site.ensures.stop, refl))

pub returns-clause-merges : goal.returns-clause-merges
returns-clause-merges g c =
    ok_more c.put-done.result c.put-done.ensures.put (λ h. (c.in_ok-site.site, c.in_ok-site.ensures.holds, h))

pub returns-clause-stop : goal.returns-clause-stop
returns-clause-stop g c =
    err_both c.put-done.result c.put-done.ensures.fault c.put-done.ensures.stopped
    (λ stop why stopped. inr (c.in_ok-site.site, c.in_ok-site.ensures.holds, why, stopped))
