-- What pushing and looping come to.
use Rattle.std.proofs.Common.{ℕ, List, All, Result, Err, IsErrAnd, refl, inl, inr, ⊎_elim}
use Rattle.cue_lattice.specs.declared.refusal.Kind.TheVariants as kinds
use Rattle.cue_replica.specs.declared.answers.Answer.{Answer}
use Rattle.cue_wire.specs.Clients.{IsSendable}
use Rattle.cue_wire.specs.Connections.{Moment}
use Rattle.cue_wire.specs.declared.request.Request as requests
use Rattle.cue_net.specs.declared.halt.NetError.{NetError}
use Rattle.cue_net.specs.declared.halt.NetError.TheVariants as halts
use Rattle.cue_net.specs.Halts.{IsDeviceNetError}
use Rattle.cue_net.specs.Loops.{BothEnds, IsAnswerBetween}
use Rattle.cue_net.specs.Sockets.{IsTalkAnswer}
use Rattle.cue_net.specs.Talks.{Talk, IsAnswerInTalk}
use Rattle.cue_wire.proofs.Connections.{handed_on}

-- an input that no frame can hold
pub of_long : (inputs : List requests.Request) → (All IsSendable inputs → ⊥) → IsTalkAnswer inputs (Err (halts.Refused kinds.FrameTooLong))
of_long inputs unfit = inr (halts.Refused kinds.FrameTooLong, refl, inl (refl, unfit))

-- a connection that can't be had
pub of_device : (inputs : List requests.Request) (result : Result Answer NetError) → IsErrAnd result IsDeviceNetError → IsTalkAnswer inputs result
of_device inputs result device =
    handed_on (λ r. IsTalkAnswer inputs r) result halts.Device device (inr (halts.Device, refl, inr (inr (inr refl))))

-- a talk
pub of_talk : (inputs : List requests.Request) (result : Result Answer NetError) (talk : Talk) (turns : ℕ) (before after : Moment)
    → IsAnswerInTalk result inputs talk turns before after → IsTalkAnswer inputs result
of_talk inputs result talk turns before after answer =
    ⊎_elim (λ told. inl (told.0, told.1, told.2.count, told.3))
    (λ cut. inr (
      cut.0,
      cut.2,
      ⊎_elim
          (λ long. inl (long.0, long.1))
          (λ short. ⊎_elim (λ turns. inr (inl turns.0)) (λ more. ⊎_elim (λ memory. inr (inr (inl memory))) (λ device. inr (inr (inr device.0))) more) short)
          cut.4,
    ))
    answer

-- a talk whose ends are both here
pub of_both : (inputs : List requests.Request) (result : Result Answer NetError) (here there : Talk) (turns : ℕ) (before after : BothEnds)
    → IsAnswerBetween result inputs here there turns before after → IsTalkAnswer inputs result
of_both inputs result here there turns before after answer =
    ⊎_elim (λ told. inl (told.1.0, told.1.1, told.1.2.count, told.1.3))
    (λ cut. inr (
      cut.0,
      cut.2,
      ⊎_elim
          (λ long. inl (long.0, long.1))
          (λ short. ⊎_elim (λ turns. inr (inl turns.0)) (λ more. ⊎_elim (λ memory. inr (inr (inl memory))) (λ device. inr (inr (inr device.0))) more) short)
          cut.4,
    ))
    answer
