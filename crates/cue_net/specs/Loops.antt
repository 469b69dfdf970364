-- What passes between a client and a site, both of whose ends are here.
use Rattle.std.specs.Prelude.{◌≡◌, ◌≢◌, ◌⊎◌, ◌<◌, ◌≤◌, ℕ, ◌+◌}
use Rattle.std.specs.Prelude.{List, [], ◌++◌, length, All, Result, Err}
use Rattle.std.specs.Io.KnownBytes.{IsAtEnd}
use Rattle.cue_replica.specs.declared.answers.Answer.{Answer}
use Rattle.cue_replica.specs.Language.{Table, empty_site}
use Rattle.cue_wire.specs.declared.request.Request as requests
use Rattle.cue_wire.specs.Clients.{IsSendable}
use Rattle.cue_wire.specs.Connections.{Moment, calls, failures}
use Rattle.cue_wire.specs.Frames.{AreFrames, HasFault}
use Rattle.cue_wire.specs.Sessions.{Served}
use Rattle.cue_net.specs.declared.halt.NetError.{NetError}
use Rattle.cue_net.specs.Halts.{IsDeviceNetError, IsMemoryNetError, IsTurnsUsedNetError, IsTooLongNetError}
use Rattle.cue_net.specs.Talks.{Talk, request_frames, AreReplies}
use Rattle.cue_net.specs.Told.{ReportReplies}

-- All frames that the site's end read were served by a new site, one after the other, and all their
-- replies were written there. As many bytes were read at each end as were written at the other.
pub record AreServed (near far : Talk) : Type 0 where
  pub table : Table
  pub rest : List ℕ
  pub served : Served far.heard rest empty_site table [] far.sent
  pub there : length far.heard ≡ length near.sent
  pub back : length near.heard ≡ length far.sent

-- What was heard is not just one reply to each input and one to the question.
abbrev pub AreOtherReplies : List requests.Request → List ℕ → Type 0
AreOtherReplies inputs heard =
    (replies : List (List ℕ)) × (rest : List ℕ) × AreFrames heard replies rest
    × (length replies ≢ length inputs + 1)

-- how many bytes were written and read at both ends
abbrev pub bytes_of_loop : Talk → Talk → ℕ
bytes_of_loop near far = length near.sent + length near.heard + length far.sent + length far.heard

-- what the devices of both ends tell at a moment
pub record BothEnds : Type 0 where
  pub near : Moment
  pub far : Moment

-- what those of both ends tell, by what devices of their types do
abbrev pub both_ends : {S K : Type 0} → (S → K → Moment) → S → K → S → K → BothEnds
both_ends at near near_sink far far_sink =
    record { near = at near near_sink; far = at far far_sink }

-- how many calls were made at both ends, and how many of them failed
abbrev pub all_calls : BothEnds → ℕ
all_calls at = calls at.near + at.far.reads + at.far.writes

abbrev pub all_failures : BothEnds → ℕ
all_failures at = failures at.near + at.far.failed_reads + at.far.failed_writes

-- All turns are used, in as many calls, by which at least as many bytes passed.
abbrev pub AreUsedUpBetween : Talk → Talk → ℕ → BothEnds → BothEnds → Type 0
AreUsedUpBetween near far turns before after =
    (all_calls after ≡ all_calls before + turns) × (turns ≤ bytes_of_loop near far)

-- Why the ends have no answer. Nothing is written where a frame can't hold an input. An end of what
-- is read is a cause where fewer bytes came than were written at the other end. What an end reads
-- may be none of what the other writes.
abbrev pub IsBroken : NetError → List requests.Request → Talk → Talk → ℕ → BothEnds → BothEnds → Type 0
IsBroken halt inputs near far turns before after =
    (IsTooLongNetError halt × (All IsSendable inputs → ⊥) × (near.sent ≡ []) × (far.heard ≡ []))
    ⊎ (IsTurnsUsedNetError halt × AreUsedUpBetween near far turns before after)
    ⊎ IsMemoryNetError halt
    ⊎ (IsDeviceNetError halt × ((all_failures before < all_failures after)
    ⊎ (IsAtEnd after.near.to_come × (length near.heard < length far.sent))
    ⊎ (IsAtEnd after.far.to_come × (length far.heard < length near.sent))
    ⊎ HasFault near.heard ⊎ HasFault far.heard ⊎ AreOtherReplies inputs near.heard))

-- What is answered: what the replies tell of which all were served; or why not.
abbrev pub IsAnswerBetween : Result Answer NetError → List requests.Request → Talk → Talk → ℕ → BothEnds
    → BothEnds → Type 0
IsAnswerBetween result inputs near far turns before after =
    (AreServed near far × ((replies : List (List ℕ)) × (last : List ℕ)
    × AreReplies inputs near replies last × ReportReplies replies last result))
    ⊎ ((halt : NetError) × (unsent : List ℕ) × (result ≡ Err halt)
    × (request_frames inputs ≡ near.sent ++ unsent)
    × IsBroken halt inputs near far turns before after)
