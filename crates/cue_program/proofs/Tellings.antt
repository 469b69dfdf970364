-- Answers that are written while they are made.
use Rattle.std.proofs.Common.{◌≡◌, ◌⊎◌, ⊎_elim, inl, inr, ◌++◌, ℕ, List, Option, true, refl, sym, ap, ◌∙◌, subst, append_assoc, append-nil}
use Rattle.std.specs.Io.KnownBytes.{Appends}
use Rattle.cue_replica.specs.Answers.{WritesAnswerPrefix, WritesAnswer, line_end}
use Rattle.cue_replica.specs.declared.SiteQuestion.{SiteQuestion}
use Rattle.cue_replica.specs.declared.SiteQuestion.TheVariants as questions
use Rattle.cue_replica.specs.declared.Status.{Status}
use Rattle.cue_replica.specs.declared.Status.TheVariants as statuses
use Rattle.cue_replica.proofs.OneAnswer.{one_answer}
use Rattle.cue_device.specs.Texts.{WritesPrefix}
use Rattle.cue_replica.specs.Language.{Table, language}
use Rattle.cue_program.specs.Outlets.{AddsBytes, BreaksAfter, HasBegun, IsWriteFailed, Passage, passage_of}
use Rattle.cue_program.specs.Runs.{IsAnswerAdded, IsAnswerCut}
use Rattle.cue_program.specs.Stops.{IsDeviceStop, IsMemoryStop}
use Rattle.cue_program.specs.declared.output.Output.{Output}
use Rattle.cue_program.specs.declared.stop.RunError.{RunError}
use Rattle.cue_program.proofs.Devices.{appends_more}

-- a stream that broke has taken a front
pub begun_by : (passage : Passage) (bytes : List ℕ) → BreaksAfter passage bytes → WritesPrefix passage.before passage.after bytes
begun_by passage bytes h = record { front = h.0.0; back = h.0.1; whole = h.0.2; added = h.0.3 }

-- ---- state bytes
pub state_added : (table : Table) (passage : Passage) → AddsBytes passage (language.written table) → IsAnswerAdded questions.State table passage statuses.Done
state_added table passage adds =
    let bytes = language.written table in (bytes, (bytes, (refl, refl), sym (append-nil bytes)), adds)

pub state_cut : (table : Table) (passage : Passage) (stop : RunError) → IsWriteFailed passage (language.written table) stop → IsAnswerCut questions.State table passage stop
state_cut table passage stop why = (
  ⊎_elim (λ h. inl (h.0, h.1.1)) (λ h. inr h.0) why,
  λ shown status is.
      subst (HasBegun passage) (sym (is.2 ∙ append-nil is.0 ∙ is.1.0)) (⊎_elim (λ h. h.1.0) (λ h. h.1) why),
)

-- ---- texts
module _ {W : Type 0} (contents : W → Option (List ℕ)) (question : SiteQuestion) (table : Table) (old mid new : Output W) where
  module _ (status : Status) (told : WritesAnswer question table status (contents old.inner) (contents mid.inner)) where
    more : (line : List ℕ) → AddsBytes (passage_of contents mid new) line → AddsBytes (passage_of contents old new) (told.0 ++ line)
    more line = appends_more (contents old.inner) (contents mid.inner) (contents new.inner) told.0 line told.2

    -- an answer and its end were written
    pub text_added : AddsBytes (passage_of contents mid new) (line_end question status) → IsAnswerAdded question table (passage_of contents old new) status
    text_added adds = (told.0 ++ line_end question status, (told.0, told.1, refl), more (line_end question status) adds)

    -- its end was not
    pub end_cut : (stop : RunError) → IsDeviceStop stop → BreaksAfter (passage_of contents mid new) (line_end question status) → IsAnswerCut question table (passage_of contents old new) stop
    end_cut stop is breaks = (
      inl (is, breaks.1),
      λ shown ended was.
          let same = one_answer table question told.0 was.0 status ended told.1 was.1 in
          let front = breaks.0.0 in
          let back = breaks.0.1 in
          let whole : told.0 ++ line_end question status ≡ shown =
          ap (λ b. b ++ line_end question status) same.0 ∙ ap (λ s. was.0 ++ line_end question s) same.1 ∙ sym was.2 in (
            told.0 ++ front,
            back,
            sym whole ∙ ap (λ l. told.0 ++ l) breaks.0.2 ∙ sym (append_assoc told.0 front back),
            more front breaks.0.3,
          ),
    )

  -- an answer was not told to its end
  pub text_cut :
      (stop : RunError) → WritesAnswerPrefix question table (contents old.inner) (contents mid.inner) → new.inner ≡ mid.inner
      → (IsDeviceStop stop × (new.failed ≡ true)) ⊎ IsMemoryStop stop → IsAnswerCut question table (passage_of contents old new) stop
  text_cut stop begun same why = (
    why,
    λ shown status is.
        let b = begun is.0 status is.1 in (
          b.front,
          b.back ++ line_end question status,
          is.2 ∙ ap (λ t. t ++ line_end question status) b.whole ∙ append_assoc b.front b.back (line_end question status),
          subst (λ inner. Appends (contents old.inner) (contents inner) b.front) (sym same) b.added,
        ),
  )
