use Rattle.std.proofs.Common.{◌∙◌, inl, inr, ⊎_elim, sym, subst}
use Rattle.cue_policies.specs.Patterns.{IsPatternOf}
use Rattle.cue_policies.specs.Inner.Parts.{kind_of}
use Rattle.std.proofs.lemmas.Result.{on_ok_weaker}
use Rattle.cue_policies.proofs.below.add_named.Goals as goal

pub returns : goal.returns
returns c =
    let plain : ¬ IsPatternOf (kind_of c.args.part.now.role) c.args.label.now = λ p.
    let yes = c.has_pattern.ensures.1 (subst (IsPatternOf (kind_of c.args.part.now.role)) (sym c.as_str.ensures) p) in absurd (cc) in
    on_ok_weaker c.add_at.result (λ h next. (
      λ x. ⊎_elim (λ o. inl o) (λ at. inr (plain, (at.0, at.1 ∙ c.role_below.ensures))) ((h next).0 x),
      λ x. (h next).1 (⊎_elim (λ o. inl o) (λ g. inr (g.1.0, g.1.1 ∙ sym c.role_below.ensures)) x),
    )) c.add_at.ensures
