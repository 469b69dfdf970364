-- What the functions that send requests and hear replies promise one another.
use Rattle.std.specs.Prelude.{◌≡◌, ◌≢◌, ◌⊎◌, ◌<◌, ◌≤◌, ℕ, List, [], ◌++◌, ◌+◌, length}
use Rattle.std.specs.Prelude.{Option, Result, Ok, Err}
use Rattle.std.specs.Io.KnownBytes.{Appends, Consumes, IsAtEnd}
use Rattle.cue_wire.specs.Clients.{ClientExchange, ClientHasTaken}
use Rattle.cue_wire.specs.Frames.{HasFault}
use Rattle.cue_net.specs.declared.halt.NetError.{NetError}
use Rattle.cue_net.specs.Halts.{IsDeviceNetError, IsMemoryNetError, IsTurnsUsedNetError}
use Rattle.cue_net.specs.Talks.{Talk}
use Rattle.cue_net.specs.Inner.Turns.{Moves}

-- what a source gave is what was read, and what a sink took is what was written
pub record CarriesTalk (talk : Talk) (given given' to_come to_come' taken taken' : Option (List ℕ))
    : Type 0 where
  pub gave : Appends given given' talk.heard
  pub took : Consumes to_come to_come' talk.heard
  pub wrote : Appends taken taken' talk.sent

-- the client takes this piece
abbrev pub FeedsClient : ClientExchange → ClientExchange → List ℕ → Type 0
FeedsClient old new piece = (stream : List ℕ) → ClientHasTaken old stream → ClientHasTaken new (stream ++ piece)

-- the client finds a length that no frame has
abbrev pub FindsLongFrame : ClientExchange → List ℕ → Type 0
FindsLongFrame old piece = (stream : List ℕ) → ClientHasTaken old stream → HasFault (stream ++ piece)

-- so many replies are not there yet
abbrev pub Lacks : ClientExchange → ClientExchange → List ℕ → ℕ → Type 0
Lacks old new piece count = FeedsClient old new piece × (length new.replies < count)

-- why so many replies are not heard
abbrev pub IsReadError : NetError → List ℕ → ClientExchange → ClientExchange → List ℕ → ℕ → Option (List ℕ)
    → ℕ → ℕ → ℕ → Type 0
IsReadError halt unsent old new piece count to_come left failed failed' =
    (IsTurnsUsedNetError halt × (left ≡ 0) × ((unsent ≢ []) ⊎ Lacks old new piece count))
    ⊎ IsMemoryNetError halt
    ⊎ (IsDeviceNetError halt × ((failed < failed') ⊎ (IsAtEnd to_come × Lacks old new piece count)
    ⊎ FindsLongFrame old piece))

-- so many replies are there, or not
abbrev pub ReadsReplies : Result (Unit {0}) NetError → List ℕ → ClientExchange → ClientExchange → List ℕ → ℕ
    → Option (List ℕ) → ℕ → ℕ → ℕ → Type 0
ReadsReplies (Ok u) unsent old new piece count to_come left failed failed' =
    FeedsClient old new piece × (count ≤ length new.replies)
ReadsReplies (Err halt) unsent old new piece count to_come left failed failed' =
    IsReadError halt unsent old new piece count to_come left failed failed'

-- what was heard, and how hearing ends
pub record RepliesRead (result : Result (Unit {0}) NetError) (old new : ClientExchange) (count : ℕ)
    (given given' to_come to_come' : Option (List ℕ)) (left left' failed failed' : ℕ)
    : Type 0 where
  pub piece : List ℕ
  pub gave : Appends given given' piece
  pub took : Consumes to_come to_come' piece
  pub moves : Moves result left left' (length piece)
  pub ends : ReadsReplies result [] old new piece count to_come' left' failed failed'

-- nothing is left to be sent
abbrev pub AllSent : Result (Unit {0}) NetError → List ℕ → Type 0
AllSent (Ok u) unsent = unsent ≡ []
AllSent (Err halt) unsent = Unit {0}

-- what asking adds to a talk: these frames, or the front of them, are sent, and replies are heard
pub record RequestsSent (result : Result (Unit {0}) NetError) (frames : List ℕ) (old new : ClientExchange)
    (count : ℕ) (given given' to_come to_come' taken taken' : Option (List ℕ))
    (left left' failed failed' : ℕ) : Type 0 where
  pub talk : Talk
  pub unsent : List ℕ
  pub passes : CarriesTalk talk given given' to_come to_come' taken taken'
  pub front : frames ≡ talk.sent ++ unsent
  pub all : AllSent result unsent
  pub moves : Moves result left left' (length talk.sent + length talk.heard)
  pub ends : ReadsReplies result unsent old new talk.heard count to_come' left' failed failed'
