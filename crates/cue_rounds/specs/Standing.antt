-- What a connection may have sent: answers of calls that stand.
use Rattle.std.specs.Prelude.{◌≡◌, ◌≢◌, ◌⊎◌, ℕ, Bool, false, List, [], ◌∷◌, ◌++◌, length, flat_map, if◌then◌else◌, ◌==◌, Option, Some, None}
use Rattle.std.proofs.Common.{get_or}
use Rattle.http.specs.declared.request.Request.{Request}
use Rattle.http_server.specs.declared.response.Response.{Response}
use Rattle.http_server.specs.declared.connection.Connection.{Connection}
use Rattle.http_server.specs.Connection.{config_of, history}
use Rattle.http_server.specs.History.{new_history}
use Rattle.http_server.specs.Exchange.{Call}
use Rattle.http_server.specs.Rounds.{kept_of, IsCleared}
use Rattle.cue_rounds.specs.declared.peer.Peer.{Peer}
use Rattle.cue_rounds.specs.declared.peer.HeldAnswer.{HeldAnswer}
use Rattle.cue_rounds.specs.declared.peers.PeerSlot.{PeerSlot}
use Rattle.cue_rounds.specs.declared.peers.PeerSlot.TheVariants.{Free, Taken}

-- What happens to the service in a round: a call of the connection at a place, or else something that
-- no connection asked for.
abbrev pub Step : Type 0
Step = Option (ℕ × Call)

abbrev pub of_place : ℕ → Step → List Call
of_place place None = []
of_place place (Some (other, call)) = if other == place then call ∷ [] else []

-- the calls of the connection at this place
abbrev pub at : ℕ → List Step → List Call
at place steps = flat_map (of_place place) steps

-- it waits for another edition than this
abbrev pub WaitsSince : ℕ → Option HeldAnswer → Type 0
WaitsSince edition None = ⊥
WaitsSince edition (Some held) = held.edition ≢ edition

module _ {T : Type 0} (written : T → List ℕ) where
  -- it has said nothing, and was told nothing
  pub record IsBlank (peer : Peer T) : Type 0 where
    pub history_is : history peer.connection ≡ new_history
    pub untold : written peer.stream ≡ []
    pub waits_not : peer.held ≡ None

  -- Where a connection began: as it was, or as a new one, when the calls before are dropped with the
  -- old one.
  pub record IsFrom (made dropped kept : List Call) (old : Peer T) (base : Connection) : Type 0 where
    pub made_is : made ≡ dropped ++ kept
    pub begins : ((base ≡ old.connection) × (dropped ≡ [])) ⊎ (history base ≡ new_history)

  -- a connection made these calls, and nothing was written to its peer
  pub record Works (made : List Call) (old new : Peer T) : Type 0 where
    pub config : config_of new.connection ≡ config_of old.connection
    pub calls : (history new.connection).calls ≡ (history old.connection).calls ++ made
    pub received : (more : List ℕ) × ((history new.connection).received ≡ (history old.connection).received ++ more)
    pub sent : (history new.connection).sent ≡ (history old.connection).sent
    pub silent : written new.stream ≡ written old.stream

  -- a new connection took the place of the old one and made these calls, and nothing was written
  pub record Restarts (made : List Call) (old new : Peer T) : Type 0 where
    pub base : Connection
    pub blank : history base ≡ new_history
    pub config : config_of new.connection ≡ config_of base
    pub calls : (history new.connection).calls ≡ made
    pub sent : (history new.connection).sent ≡ []
    pub silent : written new.stream ≡ written old.stream

  -- Both, in any order. The calls that are dropped were made by connections that were replaced.
  pub record Lives (made : List Call) (old new : Peer T) : Type 0 where
    pub base : Connection
    pub dropped : List Call
    pub kept : List Call
    pub is_from : IsFrom made dropped kept old base
    pub config : config_of new.connection ≡ config_of base
    pub calls : (history new.connection).calls ≡ (history base).calls ++ kept
    pub received : (more : List ℕ) × ((history new.connection).received ≡ (history base).received ++ more)
    pub sent : (history new.connection).sent ≡ (history base).sent
    pub silent : written new.stream ≡ written old.stream

  -- A connection made no call. Whatever was written before it, what it sent is written, and no more.
  pub record Sends (old new : Peer T) : Type 0 where
    pub config : config_of new.connection ≡ config_of old.connection
    pub calls : (history new.connection).calls ≡ (history old.connection).calls
    pub received : (history new.connection).received ≡ (history old.connection).received
    pub wired : (before : List ℕ) → written old.stream ≡ before ++ (history old.connection).sent
        → written new.stream ≡ before ++ (history new.connection).sent

  -- In a round a peer made these calls, which stand or not. All that its connection has sent are answers
  -- of calls from before and of calls that stand; where they do not stand nothing is written.
  pub record IsRoundOf (stands : Bool) (made : List Call) (old new : Peer T) : Type 0 where
    pub base : Connection
    pub dropped : List Call
    pub kept : List Call
    pub is_from : IsFrom made dropped kept old base
    pub calls : (history new.connection).calls ≡ (history base).calls ++ kept
    pub cleared : IsCleared ((history base).calls ++ kept_of ((kept, stands) ∷ [])) new.connection
    pub wired : (before : List ℕ) → written old.stream ≡ before ++ (history base).sent
        → written new.stream ≡ before ++ (history new.connection).sent
    pub silent : stands ≡ false → written new.stream ≡ written old.stream

-- it keeps its connection and what it waits for
pub record Stays {T : Type 0} (old new : Peer T) : Type 0 where
  pub connection : new.connection ≡ old.connection
  pub stream : new.stream ≡ old.stream
  pub held : new.held ≡ old.held

module _ {T : Type 0} where
  -- so at a place, with these calls
  abbrev pub AtPlace : (List Call → Peer T → Peer T → Type 0) → List Call → PeerSlot T → PeerSlot T → Type 0
  AtPlace P made (Free a) (Free b) = made ≡ []
  AtPlace P made (Taken p) (Taken q) = P made p q
  AtPlace P made (Free a) (Taken q) = ⊥
  AtPlace P made (Taken p) (Free b) = ⊥

  -- so at each place
  abbrev pub Each : (List Call → Peer T → Peer T → Type 0) → List Step → List (PeerSlot T) → List (PeerSlot T) → Type 0
  Each P steps olds news =
      (length news ≡ length olds)
      × ((place : ℕ) → AtPlace P (at place steps) (get_or olds place (Free None)) (get_or news place (Free None)))

  -- one came to a place that was free
  abbrev pub IsOpened : (T → List ℕ) → PeerSlot T → PeerSlot T → Type 0
  IsOpened written (Free a) (Free b) = a ≡ b
  IsOpened written (Free a) (Taken q) = IsBlank written q
  IsOpened written (Taken p) (Taken q) = q ≡ p
  IsOpened written (Taken p) (Free b) = ⊥

  -- one went, or stays with its connection
  abbrev pub IsClosed : PeerSlot T → PeerSlot T → Type 0
  IsClosed (Free a) (Free b) = Unit {0}
  IsClosed (Free a) (Taken q) = ⊥
  IsClosed (Taken p) (Taken q) = Stays p q
  IsClosed (Taken p) (Free b) = Unit {0}

  abbrev pub AreEach : (PeerSlot T → PeerSlot T → Type 0) → List (PeerSlot T) → List (PeerSlot T) → Type 0
  AreEach P olds news = (place : ℕ) → P (get_or olds place (Free None)) (get_or news place (Free None))

-- What happens to a service but for calls.
module _ {S : Type 0} (pulls_state pulls_pieces pulls_layers : S → List ℕ → Bool → S → Type 0) (rests : S → S → Type 0) where
  -- what another site sent is taken or not, or nothing changes that is answered
  abbrev pub ChangesOnce : S → S → Type 0
  ChangesOnce old new =
      rests old new ⊎ ((bytes : List ℕ) × (taken : Bool)
      × (pulls_state old bytes taken new ⊎ (pulls_pieces old bytes taken new ⊎ pulls_layers old bytes taken new)))

  abbrev pub ChangesThrough : List S → S → S → Type 0
  ChangesThrough [] old new = new ≡ old
  ChangesThrough (next ∷ states) old new = ChangesOnce old next × ChangesThrough states next new

  -- so any number of times, through these states
  abbrev pub Changes : S → S → Type 0
  Changes old new = (states : List S) × ChangesThrough states old new

module _ {S : Type 0} (answers : S → Request (List ℕ) → Response → S → Type 0) (changes : S → S → Type 0) where
  -- each step leads from the state that the one before left
  abbrev pub Trail : S → List Step → S → Type 0
  Trail old [] new = new ≡ old
  Trail old (None ∷ steps) new = (next : S) × changes old next × Trail next steps new
  Trail old (Some (place, call) ∷ steps) new = (next : S) × answers old call.0 call.1 next × Trail next steps new

  module _ {T : Type 0} (written : T → List ℕ) where
    -- steps of the service, and the calls of each connection among them
    pub record AreAtWork (service service' : S) (olds news : List (PeerSlot T)) : Type 0 where
      pub steps : List Step
      pub trail : Trail service steps service'
      pub each : Each (Lives written) steps olds news

    -- A round: connections come, the steps of the service, then one `settle`, then sending, then
    -- connections go.
    pub record IsRound (settles : S → Bool → S → Type 0) (stands : Bool) (service service' : S) (olds news : List (PeerSlot T)) : Type 0 where
      pub opened : List (PeerSlot T)
      pub opens : AreEach (IsOpened written) olds opened
      pub steps : List Step
      pub called : S
      pub trail : Trail service steps called
      pub settled : S
      pub settles_so : settles called stands settled
      pub changes_then : changes settled service'
      pub sent : List (PeerSlot T)
      pub each : Each (IsRoundOf written stands) steps opened sent
      pub closes : AreEach IsClosed sent news
