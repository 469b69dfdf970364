use Rattle.std.proofs.Common.{inl, inr, ⊎_elim, subst}
use Rattle.cue_policies.specs.Patterns.{MatchesPattern, IsPatternOf}
use Rattle.cue_policies.specs.Inner.Parts.{kind_of}
use Rattle.std.proofs.lemmas.Result.{on_ok_weaker}
use Rattle.cue_policies.proofs.below.add_bound.Goals as goal

pub returns : goal.returns
returns c =
    let is = subst (IsPatternOf (kind_of c.args.part.now.role)) c.as_str.ensures (c.has_pattern.ensures.0 (cc)) in
    let fit = subst (λ own. MatchesPattern own c.args.label.now) c.as_str-2.ensures (subst (λ l. MatchesPattern c.as_str-2.result.now l) c.as_str-3.ensures (c.fits.ensures.0 (cc))) in
    on_ok_weaker c.add_at.result (λ h next. (
      λ x. ⊎_elim (λ o. inl o) (λ at. inr (is, fit, at)) ((h next).0 x),
      λ x. (h next).1 (⊎_elim (λ o. inl o) (λ g. inr g.2) x),
    )) c.add_at.ensures
