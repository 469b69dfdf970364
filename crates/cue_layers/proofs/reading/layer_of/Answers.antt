use Rattle.std.proofs.Common.{◌≡◌, true, false, inr, refl, subst, sym, ap, ◌∙◌}
use Rattle.cue_policies.specs.WellFormed.{IsWellFormed}
use Rattle.cue_replica.specs.Language.{Table, language}
use Rattle.cue_layers.specs.Inner.Reading.{LayerParts}
use Rattle.cue_layers.proofs.ReadBytes.{same_content}
use Rattle.cue_layers.proofs.reading.layer_of.Goals as goal

pub returns-then-not-may_put-clause-refused : goal.returns-then-not-may_put-clause-refused
returns-then-not-may_put-clause-refused c =
    let content = c.in_ok-content.content in
    inr (
      refl,
      λ l held same.
          let spelled = ap (λ (p : LayerParts). p.1.1) same ∙ sym c.in_ok-content.ensures.ok in
          let kind = ap (λ (p : LayerParts). p.0.0) same in
          let one : l.content ≡ content = same_content l.content content held.is_layer.valid c.in_ok-content.ensures.valid held.long spelled in
          let P : Table → Type 0 = λ t. IsWellFormed (language.table_refuses t) in
          let t : true ≡ false = sym (c.may_put.ensures.1 (λ policy. subst P one (held.is_layer.well_formed (kind ∙ policy)))) ∙ c.if-not-may_put.true in
          cc,
    )
