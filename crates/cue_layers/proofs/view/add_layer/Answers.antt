use Rattle.std.proofs.Common.{inl, inr, ⊎_elim, sym, subst}
use Rattle.cue_replica.specs.Language.{Table, language}
use Rattle.cue_layers.proofs.view.add_layer.Goals as goal

pub returns-clause-adds : goal.returns-clause-adds
returns-clause-adds c = λ path question.
    let u = c.in_ok-unify.ensures.ok path question in
    let of = c.is_of.ensures.0 c.if-not-is_of.false in (
      λ h. ⊎_elim (λ o. inl o) (λ n. inr (of, subst (λ (t : Table). language.table_refuses t path question) c.in_ok-copy.ensures n)) (u.0 h),
      λ h. ⊎_elim (λ o. u.1 (inl o)) (λ n. u.1 (inr (subst (λ (t : Table). language.table_refuses t path question) (sym c.in_ok-copy.ensures) n.1))) h,
    )
