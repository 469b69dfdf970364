use Rattle.std.proofs.Common.{inl, inr, ⊎_elim, refl}
use Rattle.std.proofs.lemmas.Result.{err_from_is_err_and}
use Rattle.cue_layers.proofs.ReadBytes.{no_parts, bad_parts, layer_found}
use Rattle.cue_layers.proofs.reading.layer_at.Goals as goal

pub returns-in_default-clause-refused : goal.returns-in_default-clause-refused
returns-in_default-clause-refused c = inr (refl, no_parts c.args.bytes.now c.in_default.ensures.none)

pub returns-in_err-layer-clause-refused : goal.returns-in_err-layer-clause-refused
returns-in_err-layer-clause-refused c =
    let x = c.in-Some.parts in
    let p = err_from_is_err_and c.from_residual.result c.from_residual.ensures.1 in
    rw (p.1, p.2) (⊎_elim (λ m. inl m) (λ h. inr (h.0, bad_parts ((x.kind, x.name.now), (x.revision, x.state.now)) c.args.bytes.now c.in-Some.rest.now c.in-Some.ensures.some h.1)) c.in_err-layer.ensures.refused)

pub returns-clause-ok : goal.returns-clause-ok
returns-clause-ok c =
    let x = c.in-Some.parts in
    layer_found ((x.kind, x.name.now), (x.revision, x.state.now)) c.in_ok-layer.layer c.args.bytes.now c.in-Some.rest.now c.in-Some.ensures.some c.in_ok-layer.ensures.layer c.in_ok-layer.ensures.ok
