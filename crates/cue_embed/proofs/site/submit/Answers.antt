use Rattle.std.proofs.Common.{◌≡◌, ◌⊎◌, ℕ, List, subst, refl, inr}
use Rattle.cue_lattice.specs.Refusal.{memory}
use Rattle.cue_lattice.specs.World.{text}
use Rattle.cue_replica.specs.Language.{language}
use Rattle.cue_replica.specs.Replica.{AddsRefusals}
use Rattle.cue_replica.proofs.Accepted.{of_one_piece_more}
use Rattle.cue_embed.proofs.site.submit.Goals as goal

pub returns-in-Ok-submit-clause-accepts : goal.returns-in-Ok-submit-clause-accepts
returns-in-Ok-submit-clause-accepts c =
    λ pieces is. of_one_piece_more c.args.site.now c.submit.new.self pieces (text c.args.bytes.now) is
    (subst language.IsLegal c.in-Ok.ensures.0 c.in-Ok-submit.ensures.legal)
    (subst (λ (t : List ℕ). AddsRefusals c.args.site.now (language.text_refuses t) c.submit.new.self) c.in-Ok.ensures.0 c.in-Ok-submit.ensures.ok)
    c.in-Ok-submit.ensures.valid

pub returns-in-Err-submit-clause-stop : goal.returns-in-Err-submit-clause-stop
returns-in-Err-submit-clause-stop c =
    let why = c.in-Err-submit.why in
    let P : List ℕ → Type 0 = λ t. ((why ≡ memory) × (language.IsTextRefusedAtOnce t → ⊥)) ⊎ language.IsTextFault t why in (
      refl,
      inr (inr (c.in-Ok.ensures.1, c.in-Ok.ensures.2, subst P c.in-Ok.ensures.0 c.in-Err-submit.ensures.refused)),
    )
