-- What the functions that carry bytes between two ends promise one another.
use Rattle.std.specs.Prelude.{◌≡◌, ◌⊎◌, ◌<◌, ℕ, ◌+◌, List, [], ◌++◌, length}
use Rattle.std.specs.Prelude.{Option, Result, Ok, Err}
use Rattle.std.specs.Io.KnownBytes.{IsAtEnd}
use Rattle.cue_replica.specs.Language.{Table}
use Rattle.cue_wire.specs.Clients.{ClientExchange}
use Rattle.cue_wire.specs.Frames.{IsUnfinished, HasFault}
use Rattle.cue_wire.specs.Sessions.{Standing, reading, Served}
use Rattle.cue_net.specs.declared.halt.NetError.{NetError}
use Rattle.cue_net.specs.Halts.{IsDeviceNetError, IsMemoryNetError, IsTurnsUsedNetError}
use Rattle.cue_net.specs.Loops.{bytes_of_loop}
use Rattle.cue_net.specs.Talks.{Talk}
use Rattle.cue_net.specs.Inner.Turns.{Moves}
use Rattle.cue_net.specs.Inner.Hearing.{FeedsClient, FindsLongFrame, CarriesTalk}

-- Why bytes are not carried: no turn is left, memory ran out, a device failed, the end was found
-- with too few of them, or what was read is nothing that the reader takes.
abbrev pub IsCarryHalt : NetError → ℕ → Option (List ℕ) → Type 0 → ℕ → ℕ → Type 0 → Type 0
IsCarryHalt halt left to_come Few failed failed' Balk =
    (IsTurnsUsedNetError halt × (left ≡ 0)) ⊎ IsMemoryNetError halt
    ⊎ (IsDeviceNetError halt × ((failed < failed') ⊎ (IsAtEnd to_come × Few) ⊎ Balk))

-- the session takes what was read and serves what is whole with it, and adds the replies
abbrev pub ServesOnto : Standing → Standing → Table → Table → List ℕ → List ℕ → List ℕ → Type 0
ServesOnto old new before after out out' piece =
    (kept : List ℕ) → old ≡ reading kept → IsUnfinished kept → (rest : List ℕ)
    × (new ≡ reading rest) × IsUnfinished rest × Served (kept ++ piece) rest before after out out'

-- the session finds a length that no frame has
abbrev pub Faults : Standing → List ℕ → Type 0
Faults old piece = (kept : List ℕ) → old ≡ reading kept → IsUnfinished kept
    → HasFault (kept ++ piece)

-- all was written and read, or not
abbrev pub CarriesBackAt : Result (Unit {0}) NetError → List ℕ → Talk → ClientExchange → ClientExchange
    → Option (List ℕ) → ℕ → ℕ → ℕ → Type 0
CarriesBackAt (Ok u) unsent talk old new to_come left failed failed' =
    (unsent ≡ []) × (length talk.heard ≡ length talk.sent) × FeedsClient old new talk.heard
CarriesBackAt (Err halt) unsent talk old new to_come left failed failed' =
    IsCarryHalt halt left to_come (length talk.heard < length talk.sent) failed failed'
    (FindsLongFrame old talk.heard)

-- The front of these bytes was written at one end, and bytes were read at the other and handed to
-- the client.
pub record CarriedBack (result : Result (Unit {0}) NetError) (bytes : List ℕ) (old new : ClientExchange)
    (given given' to_come to_come' taken taken' : Option (List ℕ)) (left left' failed failed' : ℕ)
    : Type 0 where
  pub talk : Talk
  pub unsent : List ℕ
  pub passes : CarriesTalk talk given given' to_come to_come' taken taken'
  pub front : bytes ≡ talk.sent ++ unsent
  pub moves : Moves result left left' (length talk.sent + length talk.heard)
  pub ends : CarriesBackAt result unsent talk old new to_come' left' failed failed'

-- how an exchange of requests and replies ends
abbrev pub ExchangesAt : Result (Unit {0}) NetError → List ℕ → Talk → Talk → ClientExchange → ClientExchange
    → Standing → Standing → Table → Table → Option (List ℕ) → Option (List ℕ) → ℕ → ℕ → ℕ → Type 0
ExchangesAt (Ok u) unsent near far old new session session' before after near_to_come far_to_come
    left failed failed' =
    (unsent ≡ []) × (length far.heard ≡ length near.sent) × (length near.heard ≡ length far.sent)
    × FeedsClient old new near.heard × ServesOnto session session' before after [] far.sent far.heard
ExchangesAt (Err halt) unsent near far old new session session' before after near_to_come
    far_to_come left failed failed' =
    (IsTurnsUsedNetError halt × (left ≡ 0)) ⊎ IsMemoryNetError halt
    ⊎ (IsDeviceNetError halt × ((failed < failed')
    ⊎ (IsAtEnd near_to_come × (length near.heard < length far.sent))
    ⊎ (IsAtEnd far_to_come × (length far.heard < length near.sent))
    ⊎ FindsLongFrame old near.heard ⊎ Faults session far.heard))

-- The front of these frames was sent at the near end and served at the far one.
pub record ExchangedFrames (result : Result (Unit {0}) NetError) (frames : List ℕ) (old new : ClientExchange)
    (session session' : Standing) (before after : Table)
    (given given' to_come to_come' taken taken' : Option (List ℕ))
    (gave gave' coming coming' took took' : Option (List ℕ)) (left left' failed failed' : ℕ)
    : Type 0 where
  pub near : Talk
  pub far : Talk
  pub unsent : List ℕ
  pub near_passes : CarriesTalk near given given' to_come to_come' taken taken'
  pub far_passes : CarriesTalk far gave gave' coming coming' took took'
  pub front : frames ≡ near.sent ++ unsent
  pub moves : Moves result left left' (bytes_of_loop near far)
  pub ends : ExchangesAt result unsent near far old new session session' before after to_come'
      coming' left' failed failed'
