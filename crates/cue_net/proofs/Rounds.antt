-- What is answered where both ends are here.
use Rattle.std.proofs.Common.{◌≡◌, ◌≢◌, ◌⊎◌, ℕ, ◌+◌, ◌≤◌, List, [], ◌∷◌, ◌++◌, length, All, refl, ap, sym, ◌∙◌, subst, arith, append-nil, inl, inr, ⊎_elim, Result, Ok, Err, IsErrOf, IsErrAnd, Vec, Global}
use Rattle.cue_lattice.specs.declared.refusal.Kind.TheVariants as kinds
use Rattle.cue_replica.specs.declared.answers.Answer.{Answer}
use Rattle.cue_replica.specs.Language.{Table, empty_site}
use Rattle.cue_wire.specs.Clients.{ClientExchange, ClientHasTaken, all_items, IsSendable}
use Rattle.cue_wire.specs.Frames.{AreFrames}
use Rattle.cue_wire.specs.Sessions.{Standing, reading, Served}
use Rattle.cue_wire.specs.declared.request.Request as requests
use Rattle.cue_net.specs.declared.halt.NetError.{NetError}
use Rattle.cue_net.specs.declared.halt.NetError.TheVariants as halts
use Rattle.cue_net.specs.Halts.{IsMemoryNetError}
use Rattle.cue_net.specs.Talks.{Talk, IsTalk, request_frames}
use Rattle.cue_net.specs.Told.{ReportReplies}
use Rattle.cue_net.specs.Loops.{bytes_of_loop, BothEnds, all_calls, all_failures, IsBroken, IsAnswerBetween}
use Rattle.cue_net.specs.Inner.Looping.{ExchangedFrames}
use Rattle.cue_wire.proofs.Connections.{handed_on}
use Rattle.cue_net.proofs.Asking.{no_talk, talks_nothing}
use Rattle.cue_net.proofs.Hearing.{in_turns, long_as}
use Rattle.cue_net.proofs.Talks.{talk_of}

-- both ends' talks, and what is answered of them
abbrev pub Between : Result Answer NetError → List requests.Request → ℕ → BothEnds → BothEnds → Type 0
Between result inputs turns before after =
    (here there : Talk) × IsTalk here before.near after.near × IsTalk there before.far after.far × IsAnswerBetween result inputs here there turns before after

-- what an exchange comes to between two moments of both ends
abbrev pub ExchangedBetween : Result (Unit {0}) NetError → List ℕ → ClientExchange → ClientExchange → Standing → Standing → Table → Table → BothEnds → BothEnds → ℕ → ℕ → Type 0
ExchangedBetween result frames old new session session' site site' before after left left' =
    ExchangedFrames result frames old new session session' site site'
    before.near.given after.near.given before.near.to_come after.near.to_come before.near.taken after.near.taken
    before.far.given after.far.given before.far.to_come after.far.to_come before.far.taken after.far.taken left left' (all_failures before) (all_failures after)

-- an input that no frame can hold
pub long_between : (inputs : List requests.Request) (at : BothEnds) (turns : ℕ) → (All IsSendable inputs → ⊥) → Between (Err (halts.Refused kinds.FrameTooLong)) inputs turns at at
long_between inputs at turns unfit = (
  no_talk,
  no_talk,
  talk_of at.near at.near (talks_nothing at.near.given at.near.to_come at.near.taken),
  talk_of at.far at.far (talks_nothing at.far.given at.far.to_come at.far.taken),
  inr (halts.Refused kinds.FrameTooLong, request_frames inputs, refl, refl, inl (refl, unfit, refl, refl)),
)

-- want of memory before anything is written
pub none_between : (halt : NetError) (inputs : List requests.Request) (at : BothEnds) (turns : ℕ) → IsMemoryNetError halt → Between (Err halt) inputs turns at at
none_between halt inputs at turns memory = (
  no_talk,
  no_talk,
  talk_of at.near at.near (talks_nothing at.near.given at.near.to_come at.near.taken),
  talk_of at.far at.far (talks_nothing at.far.given at.far.to_come at.far.taken),
  inr (halt, request_frames inputs, refl, refl, inr (inr (inl memory))),
)

-- an exchange that stops
pub cut_between : (halt : NetError) (inputs : List requests.Request) (old new : ClientExchange) (s0 s1 : Standing) (t0 t1 : Table) (before after : BothEnds) (start left : ℕ)
    → ClientHasTaken old [] → s0 ≡ reading [] → (left ≡ 0 → all_calls after ≡ all_calls before + start)
    → ExchangedBetween (Err halt) (request_frames inputs) old new s0 s1 t0 t1 before after start left → Between (Err halt) inputs start before after
cut_between halt inputs old new s0 s1 t0 t1 before after start left none is used a =
    let why : IsBroken halt inputs a.near a.far start before after =
    ⊎_elim (λ turns. inr (inl (
      turns.0,
      (
        used turns.1,
        in_turns halt (start ≤ left + bytes_of_loop a.near a.far) (λ moved. omega (arith, moved, turns.1)) turns.0 a.moves,
      ),
    ))) (λ o. inr (inr (⊎_elim inl (λ device. inr (
      device.0,
      ⊎_elim inl (λ x. inr (⊎_elim inl (λ y. inr (⊎_elim inl
          (λ z. inr (⊎_elim (λ balks. inl (balks [] none)) (λ faults. inr (inl (faults [] is (inl (omega arith))))) z)) y)) x)) device.1,
    )) o))) a.ends in
    (a.near, a.far, talk_of before.near after.near a.near_passes, talk_of before.far after.far a.far_passes, inr (halt, a.unsent, refl, a.front, why))

-- what is answered of an exchange that stops, handed on
pub between_on : (result : Result Answer NetError) (halt : NetError) (inputs : List requests.Request) (before after : BothEnds) (turns : ℕ) → IsErrAnd result (λ e. e ≡ halt)
    → Between (Err halt) inputs turns before after → Between result inputs turns before after
between_on result halt inputs before after turns is between = handed_on (λ r. Between r inputs turns before after) result halt is between

-- an exchange to the end, and what the replies tell
pub answered_between : (u : Unit {0}) (result : Result Answer NetError) (inputs : List requests.Request) (old new : ClientExchange) (s0 s1 : Standing) (t0 t1 : Table) (vectors : List (Vec ℕ Global))
    (before after : BothEnds) (start left : ℕ) → All IsSendable inputs → ClientHasTaken old [] → s0 ≡ reading [] → t0 ≡ empty_site
    → ExchangedBetween (Ok u) (request_frames inputs) old new s0 s1 t0 t1 before after start left
    → all_items vectors ≡ new.replies
    → ((to_inputs : List (List ℕ)) × (last : List ℕ) × (all_items vectors ≡ to_inputs ++ last ∷ []) × (length to_inputs ≡ length inputs) × ReportReplies to_inputs last result)
    ⊎ ((length vectors ≢ length inputs + 1) × IsErrOf result halts.Device)
    → Between result inputs start before after
answered_between u result inputs old new s0 s1 t0 t1 vectors before after start left fits none is new_site a are told =
    let sent : request_frames inputs ≡ a.near.sent = a.front ∙ ap (λ zs. a.near.sent ++ zs) a.ends.0 ∙ append-nil a.near.sent in
    let all = a.ends.3 [] none in
    let sv = a.ends.4 [] is (inl (omega arith)) in (
      a.near,
      a.far,
      talk_of before.near after.near a.near_passes,
      talk_of before.far after.far a.far_passes,
      ⊎_elim (λ t. inl (
        record {
          table = t1;
          rest = sv.0;
          served = subst (λ t. Served a.far.heard sv.0 t t1 [] a.far.sent) new_site sv.3;
          there = a.ends.1;
          back = a.ends.2;
        },
        (
          t.0,
          t.1,
          record {
            rest = new.rest;
            sent = sym sent;
            heard = subst (λ rs. AreFrames a.near.heard rs new.rest) (sym are ∙ t.2) all.frames;
            unfinished = all.unfinished;
            count = t.3;
            fits = fits;
          },
          t.4,
        ),
      )) (λ s. inr (
        halts.Device,
        [],
        s.1,
        sent ∙ sym (append-nil a.near.sent),
        inr (inr (inr (
          refl,
          inr (inr (inr (inr (inr (
            new.replies,
            new.rest,
            all.frames,
            λ same. s.0 (long_as vectors new.replies are ∙ same),
          ))))),
        ))),
      )) told,
    )
