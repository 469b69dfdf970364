-- What the calls of a site are in a world of sites: the events there.
use Rattle.std.specs.Prelude.{◌≡◌, ◌≢◌, ◌⊎◌, ℕ, List, [], ◌∷◌, ◌++◌, codes, Some}
use Rattle.std.specs.Prelude.{slice_get, slice_set}
use Rattle.cue_lattice.specs.World.{Piece, text, state, Event, submit, send, deliver, foreign, Outcome, Sets}
use Rattle.cue_lattice.specs.World.{AllAlong, IsUnified, IsMessageOf, AreOutcomes, reach_sets}
use Rattle.cue_replica.specs.Language.{Table, language}
use Rattle.http_server.specs.Exchange.{Call, Chain}
use Rattle.cue_service.specs.declared.site.Site.{Site}
use Rattle.cue_service.specs.Promise.{acknowledged_by}
use Rattle.cue_service.specs.Requests.{AsksForPath}
use Rattle.cue_service.specs.Sites.{AnswersAt, GathersAt, GathersPiecesAt}

-- Each site of a world holds what its set of pieces makes it, and each message has the bytes that its
-- set makes.
pub record IsSiteWorld (tables : List Table) (messages : List (List ℕ)) (sets : Sets) : Type 0 where
  pub sites : AllAlong (IsUnified language) tables sets.sites
  pub sent : AllAlong (IsMessageOf language) messages sets.messages

-- state bytes are a message, or come from outside where no message has them
abbrev pub IsHandedToWorld : ℕ → List ℕ → List (List ℕ) → List Event → Type 0
IsHandedToWorld site bytes messages events =
    ((number : ℕ) × (slice_get messages number ≡ Some bytes) × (events ≡ deliver site number ∷ []))
    ⊎ (((number : ℕ) → slice_get messages number ≢ Some bytes) × (events ≡ foreign site bytes ∷ []))

-- a piece that is handed in
abbrev pub IsPieceIn : ℕ → Piece → List (List ℕ) → List Event → Type 0
IsPieceIn site (text t) messages events = events ≡ submit site t ∷ []
IsPieceIn site (state bytes) messages events = IsHandedToWorld site bytes messages events

-- the call was answered with the state
abbrev pub IsStateAnswer : Call → Type 0
IsStateAnswer call = AsksForPath (codes "/state") call.0 × (call.1.status ≡ 200)

-- The events that a call is, and the messages after it: the piece that it acknowledged; or the state that
-- it was answered with, which is the next message; or none.
abbrev pub AreSiteEventsOf : ℕ → Call → List (List ℕ) → List Event → List (List ℕ) → Type 0
AreSiteEventsOf site call messages events messages' =
    ((piece : Piece) × (acknowledged_by call ≡ piece ∷ []) × IsPieceIn site piece messages events
    × (messages' ≡ messages))
    ⊎ ((acknowledged_by call ≡ [])
    × ((IsStateAnswer call × (events ≡ send site ∷ []) × (messages' ≡ messages ++ call.1.body.items ∷ []))
    ⊎ (¬ IsStateAnswer call × (events ≡ []) × (messages' ≡ messages))))

-- so are all these calls, one after the other
abbrev pub AreAllEventsOf : ℕ → List Call → List (List ℕ) → List Event → List (List ℕ) → Type 0
AreAllEventsOf site [] messages events messages' = (events ≡ []) × (messages' ≡ messages)
AreAllEventsOf site (call ∷ calls) messages events messages' =
    (now later : List Event) × (between : List (List ℕ)) × AreSiteEventsOf site call messages now between
    × AreAllEventsOf site calls between later messages' × (events ≡ now ++ later)

-- The events have outcomes that the definition of a world allows at their moments, and leave it with
-- these sites and messages.
abbrev pub SiteEventsLeadTo : Sets → List Event → List Table → List (List ℕ) → Type 0
SiteEventsLeadTo sets events tables messages =
    (outcomes : List Outcome) × AreOutcomes language sets events outcomes
    × IsSiteWorld tables messages (reach_sets sets events outcomes)

-- With some events, which these calls are, a world has this table at its site, and each other site is as
-- it was.
pub record HappenedAtSite (site : ℕ) (calls : List Call) (messages : List (List ℕ)) (tables : List Table) (sets : Sets) (after : Table) : Type 0 where
  pub events : List Event
  pub messages' : List (List ℕ)
  pub are : AreAllEventsOf site calls messages events messages'
  pub comes : SiteEventsLeadTo sets events (slice_set tables site after) messages'

-- some of these pieces are handed in
abbrev pub AreTakenEvents : ℕ → List Piece → List (List ℕ) → List Event → Type 0
AreTakenEvents site [] messages events = events ≡ []
AreTakenEvents site (piece ∷ pieces) messages events =
    AreTakenEvents site pieces messages events
    ⊎ ((now later : List Event) × IsPieceIn site piece messages now
    × AreTakenEvents site pieces messages later × (events ≡ now ++ later))

-- with such events a world has this table at its site
pub record TookPieces (site : ℕ) (pieces : List Piece) (messages : List (List ℕ)) (tables : List Table) (sets : Sets) (after : Table) : Type 0 where
  pub events : List Event
  pub are : AreTakenEvents site pieces messages events
  pub comes : SiteEventsLeadTo sets events (slice_set tables site after) messages

-- the same of state bytes that are handed over
pub record TookOver (site : ℕ) (bytes : List ℕ) (messages : List (List ℕ)) (tables : List Table) (sets : Sets) (after : Table) : Type 0 where
  pub events : List Event
  pub are : IsHandedToWorld site bytes messages events
  pub comes : SiteEventsLeadTo sets events (slice_set tables site after) messages

-- The calls of a site are events of any world that it is a site of.
abbrev pub AreCallsEvents : {D : Type 0} (seen : D → List ℕ) (may_leave : D → List ℕ → Type 0) → Type 0
AreCallsEvents {D} seen may_leave =
    (number : ℕ) (old called : Site D) (calls : List Call) (messages : List (List ℕ)) (tables : List Table) (sets : Sets)
    → Chain (AnswersAt seen may_leave) old calls called → slice_get tables number ≡ Some old.desk.board → IsSiteWorld tables messages sets
    → HappenedAtSite number calls messages tables sets called.desk.board

-- So is what it takes of another site's answer, or nothing changes.
abbrev pub AreGathersEvents : {D : Type 0} (seen : D → List ℕ) (may_leave : D → List ℕ → Type 0) → Type 0
AreGathersEvents {D} seen may_leave =
    (number : ℕ) (old new : Site D) (bytes : List ℕ) (messages : List (List ℕ)) (tables : List Table) (sets : Sets)
    → GathersAt seen may_leave bytes old new → slice_get tables number ≡ Some old.desk.board → IsSiteWorld tables messages sets
    → (new.desk.board ≡ old.desk.board) ⊎ TookOver number bytes messages tables sets new.desk.board

-- So is what it takes of the pieces that another site accepted.
abbrev pub AreGatheredPiecesEvents : {D : Type 0} (seen : D → List ℕ) (may_leave : D → List ℕ → Type 0) → Type 0
AreGatheredPiecesEvents {D} seen may_leave =
    (number : ℕ) (old new : Site D) (pieces : List Piece) (messages : List (List ℕ)) (tables : List Table) (sets : Sets)
    → GathersPiecesAt seen may_leave pieces old new → slice_get tables number ≡ Some old.desk.board → IsSiteWorld tables messages sets
    → TookPieces number pieces messages tables sets new.desk.board
