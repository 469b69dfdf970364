use Rattle.std.proofs.Common.{◌≡◌, ◌⊎◌, ℕ, List, subst, refl, inl, inr}
use Rattle.cue_lattice.specs.Refusal.{memory}
use Rattle.cue_replica.specs.Language.{language}
use Rattle.cue_replica.specs.Replica.{AddsRefusals}
use Rattle.cue_program.proofs.site.submit.Goals as goal

pub returns-in-Ok-submit-clause-adds : goal.returns-in-Ok-submit-clause-adds
returns-in-Ok-submit-clause-adds c =
    subst (λ (t : List ℕ). AddsRefusals c.args.site.now (language.text_refuses t) c.submit.new.self) c.in-Ok.ensures.text.0 c.in-Ok-submit.ensures.ok

pub returns-in-Err-submit-clause-refused : goal.returns-in-Err-submit-clause-refused
returns-in-Err-submit-clause-refused c =
    let why = c.in-Err-submit.why in
    let P : List ℕ → Type 0 = λ t. ((why ≡ memory) × (language.IsTextRefusedAtOnce t → ⊥)) ⊎ language.IsTextFault t why in (
      why,
      refl,
      inr (c.in-Ok.ensures.text.1, subst P c.in-Ok.ensures.text.0 c.in-Err-submit.ensures.refused),
    )

pub returns-in-Err-clause-refused : goal.returns-in-Err-clause-refused
returns-in-Err-clause-refused c =
    (c.in-Err.why, refl, inl c.in-Err.ensures.fault)
