use Rattle.std.proofs.Common.{◌≡◌, ◌<◌, ◌^◌, List, ℕ, true, false, length, inl, inr, ⊎_elim, refl, sym, ap, ◌∙◌, arith}
use Rattle.std.specs.Prelude.{slice_get}
use Rattle.cue_layers.proofs.States.{fifth, content_again, refused_for}
use Rattle.cue_layers.proofs.reading.content_of.Goals as goal

pub returns-then-not-is_of_version-clause-refused : goal.returns-then-not-is_of_version-clause-refused
returns-then-not-is_of_version-clause-refused c =
    inr (
      refl,
      λ table valid e.
          let two = sym (ap (λ (b : List ℕ). slice_get b 4) e) ∙ fifth table in
          let t : true ≡ false = sym (c.is_of_version.ensures.1 two) ∙ c.if-not-is_of_version.true in
          cc,
    )

pub returns-in-Ok-clause-ok : goal.returns-in-Ok-clause-ok
returns-in-Ok-clause-ok c =
    let held : length c.args.state.now < 2 ^ 64 = omega arith in
    content_again c.args.state.now c.new-content.result c.take.new.self held (c.is_of_version.ensures.0 c.if-not-is_of_version.false) c.new-content.ensures c.in-Ok.ensures.state c.in-Ok.ensures.ok c.in-Ok.ensures.valid

pub returns-in-Err-clause-refused : goal.returns-in-Err-clause-refused
returns-in-Err-clause-refused c =
    let held : length c.args.state.now < 2 ^ 64 = omega arith in
    refused_for c.args.state.now c.in-Err.why c.layer_refusal.result held (⊎_elim (λ m. inl m.0) (λ f. inr f) c.in-Err.ensures.refused) c.layer_refusal.ensures.memory c.layer_refusal.ensures.other
