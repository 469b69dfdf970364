-- How a run ends that prints something.
use Rattle.std.proofs.Common.{◌≡◌, ⊎_elim, inl, inr, ℕ, List, ◌++◌, Option, Some, Bool, true, false, refl, ap, sym, ◌∙◌, subst}
use Rattle.std.specs.Prelude.{codes}
use Rattle.std.specs.Fmt.{digits}
use Rattle.std.proofs.lemmas.List.{append_assoc}
use Rattle.cue_replica.specs.Language.{Table}
use Rattle.cue_program.specs.Outlets.{AddsBytes, BreaksAfter, IsOutputUntouched, Passage, passage_of}
use Rattle.cue_program.specs.Runs.{IsAnswerCut}
use Rattle.cue_program.specs.Stops.{IsDeviceStop, IsMemoryStop}
use Rattle.cue_program.specs.declared.Output.{Output}
use Rattle.cue_program.specs.declared.SiteQuestion.{SiteQuestion}
use Rattle.cue_program.specs.declared.RunError.{RunError}
use Rattle.cue_program.specs.declared.RunError.TheVariants as stops
use Rattle.cue_program.specs.declared.Kind.TheVariants as kinds
use Rattle.cue_program.proofs.Devices.{appends_keeps, appends_more}
use Rattle.cue_command.specs.Faults.{IsComplaint, IsRefusedFault, EndsByFault, fault_of, line_of}
use Rattle.cue_command.specs.Runs.{RunWorld, IsRun, EndsByAnswer}
use Rattle.cue_command.specs.inner.Replies.{EndsByReply, IsReplyToWords}
use Rattle.cue_command.specs.Words.{meaning_of_words, asking, merging, serving, pushing, looping}
use Rattle.cue_command.specs.declared.acting.Reply.{Reply}
use Rattle.cue_command.specs.declared.acting.Reply.TheVariants as replies

-- the line that tells want of memory
memory_line : line_of (fault_of (stops.Refused kinds.Memory)) ≡ codes "refused 24 Memory\n"
unfolding digits
memory_line = refl

no_refusal : (t : Bool) → t ≡ false → t ≡ true → ⊥
no_refusal t h k = cc

-- what is told of a device that failed
module _ (stop : RunError) (status : ℕ) (out complaints : Passage) where
  pub device_told : IsDeviceStop stop → EndsByFault (fault_of stop) status out complaints → (status ≡ 4) × IsOutputUntouched out × IsComplaint complaints
  device_told is told = go (subst (λ (s : RunError). EndsByFault (fault_of s) status out complaints) is told)
    where
      go : EndsByFault (fault_of stops.Device) status out complaints → (status ≡ 4) × IsOutputUntouched out × IsComplaint complaints
      go (inl h) = absurd (no_refusal false refl h.0)
      go (inr h) = (h.1, h.2, h.3)

  -- and of want of memory
  memory_told : IsMemoryStop stop → EndsByFault (fault_of stop) status out complaints → IsRefusedFault (codes "refused 24 Memory\n") status out complaints
  memory_told is told = go (subst (λ (s : RunError). EndsByFault (fault_of s) status out complaints) is told)
    where
      go : EndsByFault (fault_of (stops.Refused kinds.Memory)) status out complaints → IsRefusedFault (codes "refused 24 Memory\n") status out complaints
      go (inl h) = subst (λ (line : List ℕ). IsRefusedFault line status out complaints) memory_line h.1
      go (inr h) = absurd (no_refusal true h.0 refl)

module _ {W : Type 0} (contents : W → Option (List ℕ)) (old mid new : Output W) where
  -- a stream that broke and was then left alone
  pub breaks_kept : (bytes : List ℕ) → BreaksAfter (passage_of contents old mid) bytes → IsOutputUntouched (passage_of contents mid new) → BreaksAfter (passage_of contents old new) bytes
  breaks_kept bytes h k =
      ((h.0.0, h.0.1, h.0.2, appends_keeps (contents old.inner) (contents mid.inner) (contents new.inner) h.0.0 h.0.3 k.0), k.1 ∙ h.1)

  -- a line behind some bytes
  adds_more : (front line : List ℕ) → AddsBytes (passage_of contents old mid) front → AddsBytes (passage_of contents mid new) line → AddsBytes (passage_of contents old new) (front ++ line)
  adds_more front line h k = appends_more (contents old.inner) (contents mid.inner) (contents new.inner) front line h k

  -- a part of a line behind some bytes
  breaks_more : (front line : List ℕ) → AddsBytes (passage_of contents old mid) front → BreaksAfter (passage_of contents mid new) line → BreaksAfter (passage_of contents old new) (front ++ line)
  breaks_more front line h k =
      ((front ++ k.0.0, k.0.1, ap (λ t. front ++ t) k.0.2 ∙ sym (append_assoc front k.0.0 k.0.1), adds_more front k.0.0 h k.0.3), k.1)

  -- an answer that could not be written whole
  pub answer_not_told :
      (question : SiteQuestion) (table : Table) (stop : RunError) (status : ℕ) (complaints : Passage) → IsAnswerCut question table (passage_of contents old mid) stop
      → EndsByFault (fault_of stop) status (passage_of contents mid new) complaints → EndsByAnswer question table (passage_of contents old new) complaints status
  answer_not_told question table stop status complaints (why, begun) told =
      ⊎_elim
      (λ device. let h = device_told stop status (passage_of contents mid new) complaints device.0 told in
      inr (inr (h.0, h.1.1 ∙ device.1, (λ shown ended is. (shown, inl refl, breaks_kept shown (begun shown ended is, device.1) h.1)), h.2)))
      (λ memory. behind (memory_told stop status (passage_of contents mid new) complaints memory told))
      why
    where
      behind : IsRefusedFault (codes "refused 24 Memory\n") status (passage_of contents mid new) complaints → EndsByAnswer question table (passage_of contents old new) complaints status
      behind (inl h) =
          inr (inl (
            h.0,
            (λ shown ended is. let b = begun shown ended is in
                (b.0 ++ codes "refused 24 Memory\n", (b.0, b.1, b.2, refl), adds_more b.0 (codes "refused 24 Memory\n") b.3 h.1)),
            h.2,
          ))
      behind (inr h) =
          inr (inr (
            h.0,
            h.1.1,
            (λ shown ended is. let b = begun shown ended is in
                (b.0 ++ codes "refused 24 Memory\n", inr (b.0, b.1, b.2, refl), breaks_more b.0 (codes "refused 24 Memory\n") b.3 h.1)),
            h.2,
          ))

-- a run that prints what its words ask for
pub run_of_reply :
    (words : List (List ℕ)) (around : RunWorld) (out complaints : Passage) (status : ℕ) (reply : Reply) → IsReplyToWords words around reply
    → EndsByReply reply out complaints status → IsRun words around out complaints status
run_of_reply words around out complaints status (replies.Answer answer) is (inl told) = inl (answer, is, told.0, told.1, told.2)
run_of_reply words around out complaints status (replies.Answer answer) is (inr failed) = inr (inr (inl (answer, is, failed.0, failed.1, failed.2)))
run_of_reply words around out complaints status (replies.Site question table) (asking of files, asks, is) told =
    inr (inr (inr (question, table, (files, subst (λ q. meaning_of_words words ≡ Some (asking q files)) (sym is.0) asks, is.1, is.2), told)))
run_of_reply words around out complaints status (replies.Site question table) (merging name files, asks, is) told = absurd is
run_of_reply words around out complaints status (replies.Site question table) (serving port count, asks, is) told = absurd is
run_of_reply words around out complaints status (replies.Site question table) (pushing port files, asks, is) told = absurd is
run_of_reply words around out complaints status (replies.Site question table) (looping files, asks, is) told = absurd is
