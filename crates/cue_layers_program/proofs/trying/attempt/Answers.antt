use Rattle.std.proofs.Common.{ℕ, List, inl, inr, ⊎_elim, ap, ◌∙◌, subst}
use Rattle.cue_layers.specs.declared.LayersRefusal.{LayersRefusal}
use Rattle.cue_layers_program.specs.Tries.{AreNewLines}
use Rattle.cue_layers_program.specs.Stops.{IsMemoryLayersStop, IsRefusalLayersStop}
use Rattle.cue_layers_program.specs.declared.stop.LayersStop.TheVariants.{Refused}
use Rattle.cue_layers_program.proofs.Results.{err_as, err_on}
use Rattle.cue_layers_program.proofs.trying.attempt.Goals as goal

pub returns-in_err-before-clause-stop : goal.returns-in_err-before-clause-stop
returns-in_err-before-clause-stop g c =
    err_on c.from_residual-in_err-before.result c.in_err-before.field-0.0 _ c.from_residual-in_err-before.ensures.1
    (inr (inl (c.in_ok-check_name.ensures.name, c.in_err-before.ensures.stop)))

pub returns-in_err-report-clause-stop : goal.returns-in_err-report-clause-stop
returns-in_err-report-clause-stop g c =
    let why = c.in_err-report.field-0.0 in
    let before = c.in_ok-before.before in
    let reads = c.in_ok-before.ensures.read in
    err_as c.from_residual-in_err-report.result (λ stop. IsRefusalLayersStop why stop) _ c.from_residual-in_err-report.ensures.1
    (λ stop is. ⊎_elim
    (λ h. inr (inr (inr (before, c.in_ok-after.after, c.in_ok-after.field-0-1, reads, c.in_ok-after.ensures.changed, h.1, is ∙ ap (λ (w : LayersRefusal). Refused w) h.0))))
    (λ m. inr (inr (inl (c.in_ok-check_name.ensures.name, (before, reads, inr (inr (is ∙ ap (λ (w : LayersRefusal). Refused w) m)))))))
    c.in_err-report.ensures.refused)

pub returns-in_err-former-clause-stop : goal.returns-in_err-former-clause-stop
returns-in_err-former-clause-stop g c =
    let why = c.in_err-former.field-0.0 in
    err_as c.from_residual-in_err-former.result (λ stop. IsRefusalLayersStop why stop) _ c.from_residual-in_err-former.ensures.1
    (λ stop is. inr (inr (inl (c.in_ok-check_name.ensures.name, (c.in_ok-before.before, c.in_ok-before.ensures.read, inr (inr (is ∙ ap (λ (w : LayersRefusal). Refused w) c.in_err-former.ensures.refused)))))))

pub returns-in_err-new_lines-clause-stop : goal.returns-in_err-new_lines-clause-stop
returns-in_err-new_lines-clause-stop g c =
    err_as c.from_residual-in_err-new_lines.result IsMemoryLayersStop _ c.from_residual-in_err-new_lines.ensures.1
    (λ stop m. inr (inr (inl (c.in_ok-check_name.ensures.name, (c.in_ok-before.before, c.in_ok-before.ensures.read, inr (inr m))))))

pub returns-clause-tried : goal.returns-clause-tried
returns-clause-tried g c =
    let former = c.in_ok-former.former.items in
    let report = c.in_ok-report.report.items in
    let P : List ℕ → Type 0 = λ bytes. AreNewLines bytes c.deref-2.result.now c.in_ok-new_lines.field-0 in
    let Q : List ℕ → Type 0 = λ bytes. AreNewLines former bytes c.in_ok-new_lines.field-0 in (
      c.in_ok-before.before,
      c.in_ok-after.after,
      c.in_ok-after.field-0-1,
      former,
      report,
      c.in_ok-before.ensures.read,
      c.in_ok-after.ensures.changed,
      c.in_ok-former.ensures.report,
      c.in_ok-report.ensures.report,
      subst Q c.deref-2.ensures.value (subst P c.deref.ensures.value c.in_ok-new_lines.ensures),
    )
