use Rattle.std.proofs.Common.{◌⊎◌, ⊎_elim, Some, inl, inr, subst}
use Rattle.std.proofs.lemmas.Result.{IfOk-weaker, IfErr-weaker}
use Rattle.cue_replica.specs.Language.{Table, language}
use Rattle.cue_replica.specs.Replica.{AddsRefusals}
use Rattle.cue_wire.proofs.Connections.{err_on}
use Rattle.cue_program.specs.Inputs.{IsUnified, IsInputRefused, stream}
use Rattle.cue_program.specs.Stops.{IsMemoryStop}
use Rattle.cue_program.specs.inner.Taking.{IsStreamRead}
use Rattle.cue_program.specs.inner.Texts.{AreTexts, IsTextRefused}
use Rattle.cue_program.specs.declared.input_reader.Input.{Input}
use Rattle.cue_program.specs.declared.stdin_splitter.Texts.{Texts}
use Rattle.cue_program.proofs.Streams.{of_one_state, refused_state, texts_held, texts_refused}
use Rattle.cue_program.proofs.site.site_of.Goals as goal

pub returns-in_ok-take_state-in-State-clause-holds : goal.returns-in_ok-take_state-in-State-clause-holds
returns-in_ok-take_state-in-State-clause-holds c bytes h =
    let is = (subst (λ (input : Input Texts). IsStreamRead input bytes) c.in-State.is h) in
    of_one_state bytes c.take_state.new.site is.0.0 (c.in_ok-take_state-in-State.ensures.state bytes (is.0.1, is.1))
    (subst (λ (old : Table). AddsRefusals old (language.state_refuses bytes) c.take_state.new.site) c.new-site.ensures (c.in_ok-take_state-in-State.ensures.adds bytes (is.0.1, is.1)))
    c.in_ok-take_state-in-State.ensures.valid

pub returns-in_err-take_state-in-State-clause-stop : goal.returns-in_err-take_state-in-State-clause-stop
returns-in_err-take_state-in-State-clause-stop c bytes h =
    let is = (subst (λ (input : Input Texts). IsStreamRead input bytes) c.in-State.is h) in
    let fault = c.in_err-take_state-in-State.ensures.refused bytes (is.0.1, is.1) in
    err_on c.from_residual.result c.in_err-take_state-in-State.field-0.0 _ c.from_residual.ensures.1
    (inl (refused_state bytes fault.0 c.in_err-take_state-in-State.field-0.0 is.0.0 fault.1 fault.2))

pub returns-in-Text-clause-holds : goal.returns-in-Text-clause-holds
returns-in-Text-clause-holds c bytes h =
    let is = (subst (λ (input : Input Texts). IsStreamRead input bytes) c.in-Text.is h) in
    IfOk-weaker c.finish.result (AreTexts bytes) (IsUnified (stream (Some bytes)))
    (λ site texts. texts_held bytes site is.0.0 texts)
    (c.finish.ensures.holds bytes is.0.1)

pub returns-in-Text-clause-stop : goal.returns-in-Text-clause-stop
returns-in-Text-clause-stop c bytes h =
    let is = (subst (λ (input : Input Texts). IsStreamRead input bytes) c.in-Text.is h) in
    IfErr-weaker c.finish.result
    (λ stop. IsMemoryStop stop ⊎ IsTextRefused bytes stop) (λ stop. IsInputRefused (stream (Some bytes)) stop ⊎ IsMemoryStop stop)
    (λ stop why. ⊎_elim (λ memory. inr memory) (λ refused. inl (texts_refused bytes stop is.0.0 refused)) why)
    (c.finish.ensures.stop bytes is.0.1)
