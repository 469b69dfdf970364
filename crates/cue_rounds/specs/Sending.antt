-- What was written to a client over many rounds: answers of calls that stand.
use Rattle.std.specs.Prelude.{◌≡◌, ℕ, Bool, true, false, List, [], ◌∷◌, ◌++◌, flat_map, get_or, None}
use Rattle.http.specs.declared.request.Request.{Request}
use Rattle.http_server.specs.declared.response.Response.{Response}
use Rattle.http_server.specs.declared.connection.Connection.{Connection}
use Rattle.http_server.specs.Connection.{history}
use Rattle.http_server.specs.Exchange.{Call}
use Rattle.http_server.specs.Rounds.{IsCleared}
use Rattle.cue_rounds.specs.declared.peer.Peer.{Peer}
use Rattle.cue_rounds.specs.declared.peers.PeerSlot.{PeerSlot}
use Rattle.cue_rounds.specs.declared.peers.PeerSlot.TheVariants.{Free, Taken}
use Rattle.cue_rounds.specs.Standing.{IsBlank, IsRoundOf, IsRound, Stays}

-- A connection that was replaced. All that it has sent are answers of the first of its calls.
pub record Replaced : Type 0 where
  pub connection : Connection
  pub answered : List Call
  pub dropped : List Call
  pub cleared : IsCleared answered connection

abbrev pub calls_of : List Replaced → List Call
calls_of replaced = flat_map (λ r. r.answered ++ r.dropped) replaced

abbrev pub sent_by : List Replaced → List ℕ
sent_by replaced = flat_map (λ r. (history r.connection).sent) replaced

module _ {T : Type 0} (written : T → List ℕ) where
  -- The calls of a peer's connections, one after the other, are these, which stand. What was written to
  -- it is what these connections sent.
  pub record HasStood (stood : List Call) (peer : Peer T) : Type 0 where
    pub replaced : List Replaced
    pub calls : stood ≡ calls_of replaced ++ (history peer.connection).calls
    pub sent : written peer.stream ≡ sent_by replaced ++ (history peer.connection).sent

  -- So it is of a new peer, and stays in each round that stands; in one that does not nothing is written.
  pub record WritesWhatStands : Type 0 where
    pub begins : (peer : Peer T) → IsBlank written peer → HasStood [] peer
    pub goes_on : (stood made : List Call) (old new : Peer T) → HasStood stood old → IsRoundOf written true made old new → HasStood (stood ++ made) new
    pub ends : (made : List Call) (old new : Peer T) → IsRoundOf written false made old new → written new.stream ≡ written old.stream
    pub rests : (stood : List Call) (old new : Peer T) → HasStood stood old → Stays old new → HasStood stood new

  -- what was written to the client at a place, if there is one, is of calls that stand
  abbrev pub HasStoodAt : PeerSlot T → Type 0
  HasStoodAt (Free next) = Unit {0}
  HasStoodAt (Taken peer) = (stood : List Call) × HasStood stood peer

  abbrev pub HaveStood : List (PeerSlot T) → Type 0
  HaveStood places = (place : ℕ) → HasStoodAt (get_or places place (Free None))

  -- nothing is written to the client at a place
  abbrev pub IsSilentAt : PeerSlot T → PeerSlot T → Type 0
  IsSilentAt old (Free next) = Unit {0}
  IsSilentAt (Free next) (Taken peer) = written peer.stream ≡ []
  IsSilentAt (Taken old) (Taken new) = written new.stream ≡ written old.stream

  module _ {S : Type 0} (answers : S → Request (List ℕ) → Response → S → Type 0) (changes : S → S → Type 0) (settles : S → Bool → S → Type 0) where
    -- rounds that all stand, one after the other, each with the service and the places that it leaves
    abbrev pub AreRounds : List (S × List (PeerSlot T)) → S → List (PeerSlot T) → S → List (PeerSlot T) → Type 0
    AreRounds [] old olds new news = (new ≡ old) × (news ≡ olds)
    AreRounds ((next, places) ∷ rounds) old olds new news =
        IsRound answers changes written settles true old next olds places × AreRounds rounds next places new news

    -- Behind any rounds that stand, from the start on, what was written to each client is of calls that
    -- stand. In a round that does not stand nothing is written.
    pub record RoundsWriteWhatStands : Type 0 where
      pub stand : (rounds : List (S × List (PeerSlot T))) (old new : S) (news : List (PeerSlot T)) → AreRounds rounds old [] new news → HaveStood news
      pub ends : (old new : S) (olds news : List (PeerSlot T)) → IsRound answers changes written settles false old new olds news
          → (place : ℕ) → IsSilentAt (get_or olds place (Free None)) (get_or news place (Free None))
