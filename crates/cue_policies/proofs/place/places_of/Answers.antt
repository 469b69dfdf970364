use Rattle.std.proofs.Common.{inl, inr, ⊎_elim, sym, subst, arith}
use Rattle.cue_lattice.specs.OneOf.{OneOf}
use Rattle.cue_row.specs.Row.{RefusesAsked, IsRow}
use Rattle.cue_table.specs.Form.{IsTable}
use Rattle.cue_policies.specs.Inner.Answers.{PolicyTreeRefusals}
use Rattle.cue_policies.specs.Inner.Parts.{IsFit, PlaceRefuses}
use Rattle.cue_policies.proofs.Asking.{met_answers}
use Rattle.cue_policies.proofs.Gains.{gains_start, gains_more, gains_done, item_in}
use Rattle.cue_policies.proofs.Soundness.{met_fit, empty_fit}
use Rattle.cue_policies.proofs.Unions.{nothing_refused}
use Rattle.cue_policies.proofs.Walking.{most_in}
use Rattle.cue_policies.proofs.place.places_of.Goals as goal

pub loop-part-init : goal.loop-part-init
loop-part-init c =
    let bare = c.new-table.ensures in
    record {
      form = subst (IsTable RefusesAsked IsRow) (sym bare) (tt, tt, tt);
      gains = λ path question. gains_start (PolicyTreeRefusals c.new-table.result path question) (λ part. PlaceRefuses part path question) c.args.parts.now
          (λ h. nothing_refused path question (subst (λ t. PolicyTreeRefusals t path question) bare h));
      fit = λ top limited. subst (IsFit top) (sym bare) (empty_fit top);
    }

pub place_of-requires-clause-sound : goal.place_of-requires-clause-sound
place_of-requires-clause-sound c = c.requires.sound c.part-item.result (item_in c.args.parts.now c.loop-part.part-index c.part-item.result c.loop-part-test.true c.part-item.is)

pub place_of-requires-clause-depth : goal.place_of-requires-clause-depth
place_of-requires-clause-depth c =
    let most = most_in c.args.parts.now c.part-item.result (item_in c.args.parts.now c.loop-part.part-index c.part-item.result c.loop-part-test.true c.part-item.is) in
    omega (arith, most, c.requires.depth)

pub loop-part-preserved : goal.loop-part-preserved
loop-part-preserved c =
    let old = c.loop-part.table in
    let place = c.in_ok-place_of.field-0 in
    let new = c.meet_with.new.self in
    let met = c.in_ok-meet_with.ensures.ok in
    let is = item_in c.args.parts.now c.loop-part.part-index c.part-item.result c.loop-part-test.true c.part-item.is in
    record {
      form = c.in_ok-meet_with.ensures.form;
      gains = λ path question.
          let m = met_answers old place new met path question in
          let p = c.in_ok-place_of.ensures.refused path question in
          gains_more (PolicyTreeRefusals old path question) (PolicyTreeRefusals new path question) (λ part. PlaceRefuses part path question) c.args.parts.now c.loop-part.part-index c.part-item.result
          (OneOf (λ part. PlaceRefuses part path question) c.args.parts.now) c.loop-part-test.true c.part-item.is
          (λ h. ⊎_elim (λ x. inl x) (λ x. inr (p.0 x)) (m.0 h), λ h. m.1 (⊎_elim (λ x. inl x) (λ x. inr (p.1 x)) h))
          (c.loop-part.invariant.gains path question);
      fit = λ top limited.
          met_fit top old place new c.loop-part.invariant.form c.in_ok-place_of.ensures.form c.in_ok-meet_with.ensures.form met (c.loop-part.invariant.fit top limited)
          (c.in_ok-place_of.ensures.fit top (limited c.part-item.result is));
    }

pub returns-clause-refused : goal.returns-clause-refused
returns-clause-refused c = λ path question.
    gains_done (PolicyTreeRefusals c.loop-part.table path question) (λ part. PlaceRefuses part path question) c.args.parts.now c.loop-part.part-index (OneOf (λ part. PlaceRefuses part path question) c.args.parts.now)
    (omega (arith, c.loop-part-test.false)) (c.loop-part.invariant.gains path question)
