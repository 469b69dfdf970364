-- What is answered of a talk.
use Rattle.std.proofs.Common.{◌≡◌, ◌≢◌, ◌⊎◌, ℕ, ◌+◌, ◌≤◌, List, [], ◌∷◌, ◌++◌, length, All, refl, ap, sym, ◌∙◌, subst, arith, append-nil, inl, inr, ⊎_elim, Result, Ok, Err, IsErrOf, IsErrAnd, Vec, Global}
use Rattle.std.proofs.lemmas.List.Elements.{All-nil}
use Rattle.cue_replica.specs.declared.answers.Answer.{Answer}
use Rattle.cue_wire.specs.Clients.{ClientExchange, ClientHasTaken, all_items, IsSendable}
use Rattle.cue_wire.specs.Frames.{AreFrames}
use Rattle.cue_wire.specs.declared.request.Request as requests
use Rattle.cue_lattice.specs.declared.refusal.Kind.TheVariants as kinds
use Rattle.cue_net.specs.declared.halt.NetError.{NetError}
use Rattle.cue_net.specs.declared.halt.NetError.TheVariants as halts
use Rattle.cue_net.specs.Halts.{IsMemoryNetError, IsTooLongNetError}
use Rattle.cue_net.specs.Talks.{Talk, IsTalk, request_frames, AreTooFew, IsCut, IsAnswerInTalk}
use Rattle.cue_net.specs.Told.{ReportReplies}
use Rattle.cue_net.specs.Inner.Hearing.{Lacks, RequestsSent, CarriesTalk}
use Rattle.cue_wire.specs.Connections.{Moment, calls, failures}
use Rattle.cue_wire.proofs.Connections.{handed_on}
use Rattle.cue_net.proofs.Asking.{no_talk, talks_nothing}
use Rattle.cue_net.proofs.Hearing.{in_turns, long_as}

-- bytes that are carried between two moments
pub talk_of : {talk : Talk} (before after : Moment) → CarriesTalk talk before.given after.given before.to_come after.to_come before.taken after.taken → IsTalk talk before after
talk_of before after carried = (carried.gave, carried.took, carried.wrote)

-- what asking adds between two moments
abbrev pub AskedBetween : Result (Unit {0}) NetError → List ℕ → ClientExchange → ClientExchange → ℕ → Moment → Moment → ℕ → ℕ → Type 0
AskedBetween result frames old new count before after left left' =
    RequestsSent result frames old new count before.given after.given before.to_come after.to_come before.taken after.taken left left' (failures before) (failures after)

-- a talk and what is answered of it
abbrev pub Talked : Result Answer NetError → List requests.Request → ℕ → Moment → Moment → Type 0
Talked result inputs turns before after = (talk : Talk) × IsTalk talk before after × IsAnswerInTalk result inputs talk turns before after

-- a talk that stops before all replies are there
pub cut : (halt : NetError) (inputs : List requests.Request) (old new : ClientExchange) (count : ℕ) (before after : Moment) (start left : ℕ)
    → ClientHasTaken old [] → count ≤ length inputs + 1 → (left ≡ 0 → calls after ≡ calls before + start)
    → AskedBetween (Err halt) (request_frames inputs) old new count before after start left → Talked (Err halt) inputs start before after
cut halt inputs old new count before after start left new_taken fewer used asked =
    let few : Lacks old new asked.talk.heard count → AreTooFew inputs asked.talk.heard = λ lacks.
    let all = lacks.0 [] new_taken in (new.replies, new.rest, all.frames, all.unfinished, omega (arith, fewer, lacks.1)) in
    let why : IsCut halt inputs asked.talk asked.unsent start before after =
    ⊎_elim (λ turns. inr (inl (
      turns.0,
      record {
        called = used turns.1;
        moved = in_turns halt (start ≤ left + (length asked.talk.sent + length asked.talk.heard)) (λ moved. omega (arith, moved, turns.1)) turns.0 asked.moves;
        more = ⊎_elim inl (λ lacks. inr (few lacks)) turns.2;
      },
    ))) (λ others. inr (inr (⊎_elim inl (λ device. inr (
      device.0,
      ⊎_elim inl (λ rest. inr (⊎_elim (λ ended. inl (ended.0, few ended.1)) (λ balks. inr (inl (balks [] new_taken))) rest)) device.1,
    )) others))) asked.ends in
    (asked.talk, talk_of before after asked.passes, inr (halt, asked.unsent, refl, asked.front, why))

-- a talk in which all replies are there, and what they tell
pub answered : (u : Unit {0}) (result : Result Answer NetError) (inputs : List requests.Request) (old new : ClientExchange) (vectors : List (Vec ℕ Global))
    (before after : Moment) (start left : ℕ) → All IsSendable inputs → ClientHasTaken old []
    → AskedBetween (Ok u) (request_frames inputs) old new (length inputs + 1) before after start left
    → all_items vectors ≡ new.replies
    → ((to_inputs : List (List ℕ)) × (last : List ℕ) × (all_items vectors ≡ to_inputs ++ last ∷ []) × (length to_inputs ≡ length inputs) × ReportReplies to_inputs last result)
    ⊎ ((length vectors ≢ length inputs + 1) × IsErrOf result halts.Device)
    → Talked result inputs start before after
answered u result inputs old new vectors before after start left fits new_taken asked are told =
    let sent : request_frames inputs ≡ asked.talk.sent = asked.front ∙ ap (λ zs. asked.talk.sent ++ zs) asked.all ∙ append-nil asked.talk.sent in
    let all = asked.ends.0 [] new_taken in (
      asked.talk,
      talk_of before after asked.passes,
      ⊎_elim (λ t. inl (
        t.0,
        t.1,
        record {
          rest = new.rest;
          sent = sym sent;
          heard = subst (λ rs. AreFrames asked.talk.heard rs new.rest) (sym are ∙ t.2) all.frames;
          unfinished = all.unfinished;
          count = t.3;
          fits = fits;
        },
        t.4,
      )) (λ s. inr (
        halts.Device,
        [],
        s.1,
        sent ∙ sym (append-nil asked.talk.sent),
        inr (inr (inr (
          refl,
          inr (inr (inr (
            new.replies,
            new.rest,
            all.frames,
            omega (arith, asked.ends.1, s.0, long_as vectors new.replies are),
          ))),
        ))),
      )) told,
    )

-- an input that no frame can hold
pub too_long : (inputs : List requests.Request) (at : Moment) (turns : ℕ) → (All IsSendable inputs → ⊥) → Talked (Err (halts.Refused kinds.FrameTooLong)) inputs turns at at
too_long inputs at turns unfit =
    (no_talk, talk_of at at (talks_nothing at.given at.to_come at.taken), inr (halts.Refused kinds.FrameTooLong, request_frames inputs, refl, refl, inl (refl, unfit, refl, refl)))

-- a client that cannot be made
pub no_client : (halt : NetError) (inputs : List requests.Request) (at : Moment) (turns : ℕ) → IsMemoryNetError halt ⊎ (IsTooLongNetError halt × (All IsSendable [] → ⊥)) → Talked (Err halt) inputs turns at at
no_client halt inputs at turns why =
    (no_talk, talk_of at at (talks_nothing at.given at.to_come at.taken), inr (halt, request_frames inputs, refl, refl, ⊎_elim (λ memory. inr (inr (inl memory))) (λ long. absurd (long.1 (All-nil IsSendable))) why))

-- what is answered of a talk that stops, handed on
pub cut_on : (result : Result Answer NetError) (halt : NetError) (inputs : List requests.Request) (before after : Moment) (turns : ℕ) → IsErrAnd result (λ e. e ≡ halt)
    → Talked (Err halt) inputs turns before after → Talked result inputs turns before after
cut_on result halt inputs before after turns is talked =
    (talked.0, talked.1, handed_on (λ r. IsAnswerInTalk r inputs talked.0 turns before after) result halt is talked.2)
