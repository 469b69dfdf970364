use Rattle.std.proofs.Common.{◌≡◌, ◌∙◌, inl, inr, ⊎_elim, sym}
use Rattle.cue_policies.proofs.Gains.{pushed}
use Rattle.cue_policies.proofs.names.add_label.Goals as goal

pub returns-in_ok-push : goal.returns-in_ok-push
returns-in_ok-push c = λ l.
    let both = pushed (λ y. y ≡ l) c.args.labels.now.items c.push.new.self.items c.in_ok-from_str.field-0 c.in_ok-push.ensures.items in
    let text = c.in_ok-from_str.ensures.text in
    let is = c.is_of.ensures.0 c.if-is_of.true in (
      λ h. ⊎_elim (λ o. inl o) (λ e. inr (is, sym text ∙ e)) (both.0 h),
      λ h. both.1 (⊎_elim (λ o. inl o) (λ g. inr (text ∙ g.1)) h),
    )
