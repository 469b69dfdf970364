-- How a run ends that prints something.
use Rattle.std.proofs.Common.{◌≡◌, ◌⊎◌, ⊎_elim, inl, inr, ℕ, List, ◌++◌, Option, Some, Bool, true, false, refl, ap, sym, ◌∙◌, subst}
use Rattle.std.specs.Prelude.{codes}
use Rattle.std.specs.Fmt.{digits}
use Rattle.std.proofs.lemmas.List.{append_assoc}
use Rattle.cue_replica.specs.Language.{Table}
use Rattle.cue_program.specs.Outlets.{AddsBytes, BreaksAfter, IsOutputUntouched, Passage, passage_of}
use Rattle.cue_program.specs.Runs.{IsAnswerCut}
use Rattle.cue_program.specs.Stops.{IsDeviceStop, IsMemoryStop}
use Rattle.cue_program.specs.declared.Output.{Output}
use Rattle.cue_program.specs.declared.SiteQuestion.{SiteQuestion}
use Rattle.cue_program.specs.declared.RunError.{RunError}
use Rattle.cue_program.specs.declared.RunError.TheVariants as stops
use Rattle.cue_program.specs.declared.Kind.TheVariants as kinds
use Rattle.cue_program.proofs.Devices.{appends_keeps, appends_more}
use Rattle.cue_layers_command.specs.Faults.{IsLayersComplaint, IsExplained, IsLayersRefused, EndsByLayersFault, fault_of_layers_stop, layers_line_of}
use Rattle.cue_layers_command.specs.Runs.{LayersRunWorld, EndsByLayersAnswer, IsLayersRun, EndsByText}
use Rattle.cue_layers_command.specs.Words.{ArgumentsMeaning, meaning_of_arguments}
use Rattle.cue_layers_command.specs.inner.Replies.{IsEnd, IsReplyTo, EndsByLayersReply}
use Rattle.cue_layers_command.specs.declared.fault.LayersCommandError.{LayersCommandError}
use Rattle.cue_layers_command.specs.declared.reply.LayersReply.{LayersReply}
use Rattle.cue_layers_command.specs.declared.reply.LayersReply.TheVariants as replies

-- the line of a run for which memory ran out
abbrev pub memory_line : List ℕ
memory_line = codes "refused 24 Memory\n"

memory_line_is : layers_line_of (fault_of_layers_stop (stops.Refused kinds.Memory)) ≡ memory_line
unfolding digits
memory_line_is = refl

apart : (t : Bool) → t ≡ false → t ≡ true → ⊥
apart t h k = cc

-- what is written of a device that failed
module _ (stop : RunError) (status : ℕ) (out complaints : Passage) where
  pub device_told : IsDeviceStop stop → EndsByLayersFault (fault_of_layers_stop stop) status out complaints → (status ≡ 4) × IsOutputUntouched out × IsLayersComplaint complaints
  device_told is told = go (subst (λ (s : RunError). EndsByLayersFault (fault_of_layers_stop s) status out complaints) is told)
    where
      go : EndsByLayersFault (fault_of_layers_stop stops.Device) status out complaints → (status ≡ 4) × IsOutputUntouched out × IsLayersComplaint complaints
      go (inl h) = absurd (apart false refl h.0)
      go (inr h) = (h.1, h.2, h.3)

  -- and where memory ran out
  memory_told : IsMemoryStop stop → EndsByLayersFault (fault_of_layers_stop stop) status out complaints → EndsByText memory_line 1 out complaints status
  memory_told is told = go (subst (λ (s : RunError). EndsByLayersFault (fault_of_layers_stop s) status out complaints) is told)
    where
      fault : LayersCommandError
      fault = fault_of_layers_stop (stops.Refused kinds.Memory)

      untouched : IsExplained fault complaints → IsOutputUntouched complaints
      untouched (inl h) = h
      untouched (inr h) = absurd (apart false refl h.0)

      refused : IsLayersRefused fault status out complaints → EndsByText memory_line 1 out complaints status
      refused (inl h) = inl (h.0, subst (AddsBytes out) memory_line_is h.1, untouched h.2)
      refused (inr h) = inr (h.0, subst (BreaksAfter out) memory_line_is h.1, h.2)

      go : EndsByLayersFault fault status out complaints → EndsByText memory_line 1 out complaints status
      go (inl h) = refused h.1
      go (inr h) = absurd (apart true h.0 refl)

module _ {W : Type 0} (contents : W → Option (List ℕ)) (old mid new : Output W) where
  -- a stream that broke and was then left alone
  breaks_kept : (bytes : List ℕ) → BreaksAfter (passage_of contents old mid) bytes → IsOutputUntouched (passage_of contents mid new) → BreaksAfter (passage_of contents old new) bytes
  breaks_kept bytes h k =
      ((h.0.0, h.0.1, h.0.2, appends_keeps (contents old.inner) (contents mid.inner) (contents new.inner) h.0.0 h.0.3 k.0), k.1 ∙ h.1)

  -- a line behind some bytes
  adds_more : (front line : List ℕ) → AddsBytes (passage_of contents old mid) front → AddsBytes (passage_of contents mid new) line → AddsBytes (passage_of contents old new) (front ++ line)
  adds_more front line h k = appends_more (contents old.inner) (contents mid.inner) (contents new.inner) front line h k

  -- a part of a line behind some bytes
  breaks_more : (front line : List ℕ) → AddsBytes (passage_of contents old mid) front → BreaksAfter (passage_of contents mid new) line → BreaksAfter (passage_of contents old new) (front ++ line)
  breaks_more front line h k =
      ((front ++ k.0.0, k.0.1, ap (λ t. front ++ t) k.0.2 ∙ sym (append_assoc front k.0.0 k.0.1), adds_more front k.0.0 h k.0.3), k.1)

  -- an answer that could not be written whole
  pub answer_not_told :
      (question : SiteQuestion) (table : Table) (stop : RunError) (status : ℕ) (complaints : Passage) → IsAnswerCut question table (passage_of contents old mid) stop
      → EndsByLayersFault (fault_of_layers_stop stop) status (passage_of contents mid new) complaints → EndsByLayersAnswer question table (passage_of contents old new) complaints status
  answer_not_told question table stop status complaints (why, begun) told =
      ⊎_elim
      (λ device. let h = device_told stop status (passage_of contents mid new) complaints device.0 told in
      inr (inr (h.0, h.1.1 ∙ device.1, (λ shown ended is. (shown, inl refl, breaks_kept shown (begun shown ended is, device.1) h.1)), h.2)))
      (λ memory. behind (memory_told stop status (passage_of contents mid new) complaints memory told))
      why
    where
      behind : EndsByText memory_line 1 (passage_of contents mid new) complaints status → EndsByLayersAnswer question table (passage_of contents old new) complaints status
      behind (inl h) =
          inr (inl (
            h.0,
            (λ shown ended is. let b = begun shown ended is in
                (b.0 ++ memory_line, (b.0, b.1, b.2, refl), adds_more b.0 memory_line b.3 h.1)),
            h.2,
          ))
      behind (inr h) =
          inr (inr (
            h.0,
            h.1.1,
            (λ shown ended is. let b = begun shown ended is in
                (b.0 ++ memory_line, inr (b.0, b.1, b.2, refl), breaks_more b.0 memory_line b.3 h.1)),
            h.2,
          ))

-- a command that prints what it asks for
pub end_of_reply :
    (what : ArgumentsMeaning) (at : LayersRunWorld) (out complaints : Passage) (status : ℕ) (reply : LayersReply) → IsReplyTo what at reply → EndsByLayersReply reply out complaints status
    → IsEnd what at out complaints status
end_of_reply what at out complaints status (replies.Text bytes code) is told = inl (bytes.items, code, is, told)
end_of_reply what at out complaints status (replies.Revision revision) is told = inl (_, 0, is, told)
end_of_reply what at out complaints status (replies.Site question table) is told = inr (inl (question, table, is, told))

-- a run that does what its arguments ask for
pub run_of_end :
    (words : List (List ℕ)) (what : ArgumentsMeaning) (at : LayersRunWorld) (out complaints : Passage) (status : ℕ) → meaning_of_arguments words ≡ Some what → IsEnd what at out complaints status
    → IsLayersRun words at out complaints status
run_of_end words what at out complaints status asks (inl text) = inl (what, asks, text.0, text.1, text.2, text.3)
run_of_end words what at out complaints status asks (inr (inl site)) = inr (inl (what, asks, site.0, site.1, site.2, site.3))
run_of_end words what at out complaints status asks (inr (inr stopped)) = inr (inr (stopped.0, inr (inr (what, asks, stopped.1)), stopped.2))
