use Rattle.std.proofs.Common.{⊎_elim, refl, sym, subst}
use Rattle.cue_codec.specs.Pieces as states
use Rattle.cue_replica.specs.Reading.{HasTakenIn}
use Rattle.cue_lattice.specs.Refusal.{refusal_at}
use Rattle.cue_layers.proofs.Fed.{ok_no_err}
use Rattle.cue_layers.proofs.States.{content_again, no_content}
use Rattle.cue_layers.proofs.stage.content_of.Goals as goal

pub returns-in-Ok-clause-some : goal.returns-in-Ok-clause-some
returns-in-Ok-clause-some c = record {
  valid = c.in-Ok.ensures.valid;
  spelled = λ bytes e held.
      let taken : HasTakenIn c.args.reader bytes = (subst (λ (i : states.Intake). states.IsIntake bytes i) (sym e) refl, held.0) in
      content_again bytes c.new-content.result c.take_read.new.self held.0 held.1 c.new-content.ensures (c.in-Ok.ensures.state bytes taken) (c.in-Ok.ensures.ok bytes taken) c.in-Ok.ensures.valid;
  no_fault = λ kind h. ok_no_err c.in-Ok.field-0 (refusal_at kind 0) (c.in-Ok.ensures.fault kind h);
}

pub returns-else-ran_out-clause-none : goal.returns-else-ran_out-clause-none
returns-else-ran_out-clause-none c = λ bytes e held table valid own.
    let taken : HasTakenIn c.args.reader bytes = (subst (λ (i : states.Intake). states.IsIntake bytes i) (sym e) refl, held.0) in
    no_content bytes c.in-Err.why held.0 (⊎_elim (λ m. absurd (let yes = c.ran_out.ensures.1 m.0 in let wrong = c.if-ran_out.false in cc)) (λ f. f) (c.in-Err.ensures.refused bytes taken)) table valid own
