-- What passes on a connection between a client and a site.
use Rattle.std.specs.Prelude.{◌≡◌, ◌≢◌, ◌⊎◌, ◌<◌, ◌≤◌, ℕ, ◌+◌}
use Rattle.std.specs.Prelude.{List, [], ◌∷◌, ◌++◌, length, All, flat_map}
use Rattle.std.specs.Prelude.{Result, Err}
use Rattle.std.specs.Io.KnownBytes.{Appends, Consumes, IsAtEnd}
use Rattle.cue_replica.specs.declared.answers.Answer.{Answer}
use Rattle.cue_wire.specs.declared.request.Request as requests
use Rattle.cue_wire.specs.declared.request.Request.TheVariants as asked
use Rattle.cue_wire.specs.Clients.{request_frame, IsSendable}
use Rattle.cue_wire.specs.Connections.{Moment, calls, failures}
use Rattle.cue_wire.specs.Frames.{AreFrames, IsUnfinished, HasFault}
use Rattle.cue_net.specs.declared.halt.NetError.{NetError}
use Rattle.cue_net.specs.Halts.{IsDeviceNetError, IsMemoryNetError, IsTurnsUsedNetError, IsTooLongNetError}
use Rattle.cue_net.specs.Told.{ReportReplies}

-- what was written, and what was read
pub record Talk : Type 0 where
  pub sent : List ℕ
  pub heard : List ℕ

-- What a source gave is what was read, and what a sink took is what was written, as far as they
-- tell it.
abbrev pub IsTalk : Talk → Moment → Moment → Type 0
IsTalk talk before after =
    Appends before.given after.given talk.heard
    × Consumes before.to_come after.to_come talk.heard
    × Appends before.taken after.taken talk.sent

-- the frames of the inputs, and that of the question for the export
abbrev pub request_frames : List requests.Request → List ℕ
request_frames inputs = flat_map request_frame inputs ++ request_frame asked.AskExport

-- All was sent, and the whole frames of what was heard are these replies to the inputs and the
-- last, to the question.
pub record AreReplies (inputs : List requests.Request) (talk : Talk) (replies : List (List ℕ))
    (last : List ℕ) : Type 0 where
  pub rest : List ℕ
  pub sent : talk.sent ≡ request_frames inputs
  pub heard : AreFrames talk.heard (replies ++ last ∷ []) rest
  pub unfinished : IsUnfinished rest
  pub count : length replies ≡ length inputs
  pub fits : All IsSendable inputs

-- What was heard is no replies: a length that no frame has, or more replies than requests.
abbrev pub AreNoReplies : List requests.Request → List ℕ → Type 0
AreNoReplies inputs heard =
    HasFault heard
    ⊎ ((replies : List (List ℕ)) × (rest : List ℕ) × AreFrames heard replies rest
    × (length inputs + 1 < length replies))

-- What was heard ends before the last reply.
abbrev pub AreTooFew : List requests.Request → List ℕ → Type 0
AreTooFew inputs heard =
    (replies : List (List ℕ)) × (rest : List ℕ) × AreFrames heard replies rest
    × IsUnfinished rest × (length replies ≤ length inputs)

-- All turns are used, in as many calls, by which at least as many bytes passed; and something is
-- still to be sent or heard.
pub record AreUsedUp (inputs : List requests.Request) (talk : Talk) (unsent : List ℕ) (turns : ℕ)
    (before after : Moment) : Type 0 where
  pub called : calls after ≡ calls before + turns
  pub moved : turns ≤ length talk.sent + length talk.heard
  pub more : (unsent ≢ []) ⊎ AreTooFew inputs talk.heard

-- Why a talk ends without all replies. Nothing is written where a frame can't hold an input.
abbrev pub IsCut : NetError → List requests.Request → Talk → List ℕ → ℕ → Moment → Moment → Type 0
IsCut halt inputs talk unsent turns before after =
    (IsTooLongNetError halt × (All IsSendable inputs → ⊥) × (talk.sent ≡ []) × (talk.heard ≡ []))
    ⊎ (IsTurnsUsedNetError halt × AreUsedUp inputs talk unsent turns before after)
    ⊎ IsMemoryNetError halt
    ⊎ (IsDeviceNetError halt × ((failures before < failures after)
    ⊎ (IsAtEnd after.to_come × AreTooFew inputs talk.heard)
    ⊎ AreNoReplies inputs talk.heard))

-- What is answered of a talk: what the replies tell; or why it was cut, where the front of the
-- requests' frames was sent.
abbrev pub IsAnswerInTalk : Result Answer NetError → List requests.Request → Talk → ℕ → Moment → Moment
    → Type 0
IsAnswerInTalk result inputs talk turns before after =
    ((replies : List (List ℕ)) × (last : List ℕ) × AreReplies inputs talk replies last
    × ReportReplies replies last result)
    ⊎ ((halt : NetError) × (unsent : List ℕ) × (result ≡ Err halt)
    × (request_frames inputs ≡ talk.sent ++ unsent)
    × IsCut halt inputs talk unsent turns before after)
