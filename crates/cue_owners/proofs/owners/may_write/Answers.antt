use Rattle.std.proofs.Common.{List, ℕ, Vec, Global, Any, subst, sym, ◌∙◌}
use Rattle.std.proofs.lemmas.Bool.{false≢true}
use Rattle.cue_owners.specs.Bearers.{IsBearer}
use Rattle.cue_owners.specs.Patterns.{Fits}
use Rattle.cue_owners.proofs.owners.may_write.Goals as goal

pub returns-then-is_bearer : goal.returns-then-is_bearer
returns-then-is_bearer c =
    let B : List ℕ → Type 0 = λ t. IsBearer t c.args.field.now in
    let F : List (Vec ℕ Global) → Type 0 = λ ps. Any (λ p. Fits p.items c.args.target.now) ps in (
      λ t. (subst B c.deref.ensures.value (c.is_bearer.ensures.0 c.if-is_bearer.true), subst F c.deref-then-is_bearer.ensures.value (c.any_fits.ensures.0 t)),
      λ h. c.any_fits.ensures.1 (subst F (sym c.deref-then-is_bearer.ensures.value) h.1),
    )

pub returns-else-is_bearer : goal.returns-else-is_bearer
returns-else-is_bearer c =
    let B : List ℕ → Type 0 = λ t. IsBearer t c.args.field.now in (
      λ t. absurd (false≢true (sym c.if-is_bearer.false ∙ t)),
      λ h. c.is_bearer.ensures.1 (subst B (sym c.deref.ensures.value) h.0),
    )
