use Rattle.std.proofs.Common.{ℕ, List, inl, refl, subst}
use Rattle.std.proofs.lemmas.Result.{IfErr-weaker}
use Rattle.cue_lattice.specs.World.{Piece, state}
use Rattle.cue_replica.specs.Language.{language}
use Rattle.cue_replica.specs.Replica.{AddsRefusals}
use Rattle.cue_replica.specs.declared.Refusal.{Refusal}
use Rattle.cue_program.specs.Inputs.{IsFilePiece, IsFileRead, IsPieceRefusal, IsStateInputRefusal, IsTextInputRefusal}
use Rattle.cue_program.specs.Stops.{IsRefusedAs}
use Rattle.cue_program.specs.declared.input_reader.Enough.{Enough}
use Rattle.cue_program.specs.declared.input_reader.Input.{Input}
use Rattle.cue_program.proofs.SubmittedInputs.{both_ok}
use Rattle.cue_program.proofs.Keeping.{text_accepted, text_refused}
use Rattle.cue_program.proofs.site.take_file.Goals as goal

pub returns-in-State-clause-accepts : goal.returns-in-State-clause-accepts
returns-in-State-clause-accepts c bytes h =
    let is = (subst (λ (file : Input Enough). IsFileRead file bytes) c.in-State.is h) in
    both_ok c.take_state.result (c.take_state.ensures.state bytes (is.0.1, is.1)) (c.take_state.ensures.adds bytes (is.0.1, is.1))
    (λ accepted adds. (state bytes, inl (is.0.0, refl), accepted, adds))

pub returns-in-State-clause-refused : goal.returns-in-State-clause-refused
returns-in-State-clause-refused c bytes h =
    let is = (subst (λ (file : Input Enough). IsFileRead file bytes) c.in-State.is h) in
    IfErr-weaker c.take_state.result
    (λ stop. (why : Refusal) × IsStateInputRefusal bytes why × IsRefusedAs why c.args.number stop)
    (λ stop. (piece : Piece) × (why : Refusal) × IsFilePiece bytes piece × IsPieceRefusal piece why × IsRefusedAs why c.args.number stop)
    (λ stop fault. (state bytes, fault.0, inl (is.0.0, refl), fault.1, fault.2))
    (c.take_state.ensures.refused bytes (is.0.1, is.1))

pub returns-in-Text-clause-accepts : goal.returns-in-Text-clause-accepts
returns-in-Text-clause-accepts c bytes h =
    let is = (subst (λ (file : Input Enough). IsFileRead file bytes) c.in-Text.is h) in
    both_ok c.submit.result c.submit.ensures.legal c.submit.ensures.adds
    (λ legal adds. text_accepted bytes c.in-Text.text.bytes.items c.args.site.now c.submit.new.site is.0.0 is.0.1
    (subst language.IsLegal c.deref.ensures.value legal)
    (subst (λ (t : List ℕ). AddsRefusals c.args.site.now (language.text_refuses t) c.submit.new.site) c.deref.ensures.value adds))

pub returns-in-Text-clause-refused : goal.returns-in-Text-clause-refused
returns-in-Text-clause-refused c bytes h =
    let is = (subst (λ (file : Input Enough). IsFileRead file bytes) c.in-Text.is h) in
    IfErr-weaker c.submit.result
    (λ stop. (why : Refusal) × IsRefusedAs why c.args.number stop × IsTextInputRefusal c.deref.result.now why)
    (λ stop. (piece : Piece) × (why : Refusal) × IsFilePiece bytes piece × IsPieceRefusal piece why × IsRefusedAs why c.args.number stop)
    (λ stop fault. text_refused bytes c.in-Text.text.bytes.items c.args.number stop is.0.0 is.0.1
    (fault.0, fault.1, subst (λ (t : List ℕ). IsTextInputRefusal t fault.0) c.deref.ensures.value fault.2))
    c.submit.ensures.refused
