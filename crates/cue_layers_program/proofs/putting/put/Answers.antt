use Rattle.std.proofs.Common.{inl, inr, ⊎_elim, ap, ◌∙◌}
use Rattle.cue_layers.specs.declared.LayersRefusal.{LayersRefusal}
use Rattle.cue_layers_program.specs.Stops.{IsRefusalLayersStop}
use Rattle.cue_layers_program.specs.declared.stop.LayersStop.TheVariants.{Refused}
use Rattle.cue_layers_program.proofs.Results.{err_as, err_on}
use Rattle.cue_layers_program.proofs.putting.put.Goals as goal

pub returns-in_err-before-clause-stop : goal.returns-in_err-before-clause-stop
returns-in_err-before-clause-stop g c =
    err_on c.from_residual-in_err-before.result c.in_err-before.field-0.0 _ c.from_residual-in_err-before.ensures.1
    (inr (inl (c.in_ok-check_name.ensures.name, c.in_err-before.ensures.stop)))

pub returns-in_err-check_limit-clause-stop : goal.returns-in_err-check_limit-clause-stop
returns-in_err-check_limit-clause-stop g c =
    let why = c.in_err-check_limit.field-0.0 in
    let before = c.in_ok-before.before in
    let reads = c.in_ok-before.ensures.read in
    err_as c.from_residual-in_err-check_limit.result (λ stop. IsRefusalLayersStop why stop) _ c.from_residual-in_err-check_limit.ensures.1
    (λ stop is. ⊎_elim
    (λ h. inr (inr (inr (inl (before, c.in_ok-after.after, c.in_ok-after.revision, reads, c.in_ok-after.ensures.changed, h.1, is ∙ ap (λ (w : LayersRefusal). Refused w) h.0)))))
    (λ m. inr (inr (inl (c.in_ok-check_name.ensures.name, (before, reads, inr (inr (is ∙ ap (λ (w : LayersRefusal). Refused w) m)))))))
    c.in_err-check_limit.ensures.refused)

pub returns-in_err-put_map-clause-stop : goal.returns-in_err-put_map-clause-stop
returns-in_err-put_map-clause-stop g c =
    err_on c.from_residual-in_err-put_map.result c.in_err-put_map.field-0.0 _ c.from_residual-in_err-put_map.ensures.1
    (inr (inr (inr (inr (c.in_ok-before.before, c.in_ok-after.after, c.in_ok-after.revision, c.read_map.new.rt, c.in_ok-before.ensures.read, c.in_ok-after.ensures.changed, c.in_err-put_map.ensures.stop)))))
