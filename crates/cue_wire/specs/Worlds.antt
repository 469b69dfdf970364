-- What the frames of a session are in a world of sites: the events there.
use Rattle.std.specs.Prelude.{◌≡◌, ◌≢◌, ◌⊎◌, ◌<◌, ◌≤◌, ℕ, List, [], ◌∷◌, ◌++◌, length, Some, All}
use Rattle.std.specs.Prelude.{slice_get, slice_set}
use Rattle.cue_lattice.specs.Refusal.{refusal_at, memory}
use Rattle.cue_lattice.specs.declared.refusal.Kind.TheVariants as kinds
use Rattle.cue_lattice.specs.World as world
use Rattle.cue_lattice.specs.World.{Event, submit, send, deliver, foreign, Outcome, Sets, AllAlong}
use Rattle.cue_lattice.specs.World.{IsUnified, IsMessageOf, AreOutcomes, reach_sets}
use Rattle.cue_replica.specs.declared.world.Outcome as steps
use Rattle.cue_replica.specs.declared.world.Outcome.TheVariants.{Accepted, Refused}
use Rattle.cue_replica.specs.Language.{Table, language}
use Rattle.cue_replica.specs.World.{SubmitsText, TakesState}
use Rattle.cue_replica.specs.declared.question.SiteQuestion.TheVariants as questions
use Rattle.cue_wire.specs.Frames.{frame_limit, IsBody}
use Rattle.cue_wire.specs.Requests.{Request, text, state, ask, IsRequest, IsNoRequest}
use Rattle.cue_wire.specs.Serving.{AnswersRequests, accepted_reply, refused_reply, ServesAll}

-- Each site of a world holds what its set of pieces makes it, and each message has the bytes that
-- its set makes.
pub record IsWireWorld (tables : List Table) (messages : List (List ℕ)) (sets : Sets) : Type 0 where
  pub sites : AllAlong (IsUnified language) tables sets.sites
  pub sent : AllAlong (IsMessageOf language) messages sets.messages

-- state bytes are a message, or come from outside where no message has them
abbrev pub IsHandedByFrame : ℕ → List ℕ → List (List ℕ) → List Event → Type 0
IsHandedByFrame site bytes messages events =
    ((number : ℕ) × (slice_get messages number ≡ Some bytes)
    × (events ≡ deliver site number ∷ []))
    ⊎ (((number : ℕ) → slice_get messages number ≢ Some bytes)
    × (events ≡ foreign site bytes ∷ []))

-- What is handed in has this outcome, which the reply tells.
abbrev pub ReplyTells : (Table → Table → steps.Outcome → Type 0) → Table → Table → Outcome → List ℕ
    → Type 0
ReplyTells Step before after world.accepted reply = Step before after Accepted × (reply ≡ accepted_reply [])
ReplyTells Step before after (world.refused why) reply =
    (why ≢ memory) × Step before after (Refused why) × (reply ≡ refused_reply why)
ReplyTells Step before after outcome reply = ⊥

-- a state is sent, and is the next message, where a reply can hold it
abbrev pub IsSent : ℕ → List ℕ → List (List ℕ) → List Event → List Outcome → List (List ℕ)
    → Type 0
IsSent site bytes messages events outcomes messages' =
    ((length bytes < frame_limit) × (events ≡ send site ∷ [])
    × (outcomes ≡ world.sent (length messages) ∷ []) × (messages' ≡ messages ++ bytes ∷ []))
    ⊎ ((frame_limit ≤ length bytes) × (events ≡ []) × (outcomes ≡ []) × (messages' ≡ messages))

-- no event
abbrev pub IsNothing : List (List ℕ) → List Event → List Outcome → List (List ℕ) → Type 0
IsNothing messages events outcomes messages' =
    (events ≡ []) × (outcomes ≡ []) × (messages' ≡ messages)

-- The events that a request is which turns the one table of a site into the other and has this
-- reply, their outcomes, as the reply tells them, and the messages after them. Nothing that is
-- asked is an event, except a state.
abbrev pub AreWireEventsOf : ℕ → Request → Table → Table → List ℕ → List (List ℕ) → List Event
    → List Outcome → List (List ℕ) → Type 0
AreWireEventsOf site (text t) before after reply messages events outcomes messages' =
    (events ≡ submit site t ∷ []) × ((outcome : Outcome) × (outcomes ≡ outcome ∷ [])
    × ReplyTells (SubmitsText t) before after outcome reply) × (messages' ≡ messages)
AreWireEventsOf site (state bytes) before after reply messages events outcomes messages' =
    IsHandedByFrame site bytes messages events × ((outcome : Outcome) × (outcomes ≡ outcome ∷ [])
    × ReplyTells (TakesState bytes) before after outcome reply) × (messages' ≡ messages)
AreWireEventsOf site (ask questions.State) before after reply messages events outcomes messages' =
    IsSent site (language.written before) messages events outcomes messages'
AreWireEventsOf site (ask questions.Export) before after reply messages events outcomes messages' =
    IsNothing messages events outcomes messages'
AreWireEventsOf site (ask questions.Report) before after reply messages events outcomes messages' =
    IsNothing messages events outcomes messages'
AreWireEventsOf site (ask questions.Print) before after reply messages events outcomes messages' =
    IsNothing messages events outcomes messages'

-- The frame of this body is served, and is these events, with these outcomes. A frame that says no
-- request is none.
abbrev pub ServesIn : ℕ → List ℕ → Table → Table → List ℕ → List (List ℕ) → List Event
    → List Outcome → List (List ℕ) → Type 0
ServesIn site body before after reply messages events outcomes messages' =
    ((request : Request) × IsRequest body request × AnswersRequests request before after reply
    × AreWireEventsOf site request before after reply messages events outcomes messages')
    ⊎ (IsNoRequest body × (after ≡ before) × (reply ≡ refused_reply (refusal_at kinds.BadRequest 0))
    × IsNothing messages events outcomes messages')

-- So are all these frames, one after the other.
unfoldable pub ServesAllIn : ℕ → List (List ℕ) → Table → Table → List ℕ → List (List ℕ)
    → List Event → List Outcome → List (List ℕ) → Type 0
ServesAllIn site [] before after replies messages events outcomes messages' =
    (after ≡ before) × (replies ≡ []) × IsNothing messages events outcomes messages'
ServesAllIn site (body ∷ bodies) before after replies messages events outcomes messages' =
    (between : Table) × (first rest : List ℕ) × (now later : List Event)
    × (told others : List Outcome) × (middle : List (List ℕ))
    × ServesIn site body before between first messages now told middle
    × ServesAllIn site bodies between after rest middle later others messages'
    × (replies ≡ first ++ rest) × (events ≡ now ++ later) × (outcomes ≡ told ++ others)

-- The events have outcomes that the definition of a world allows at their moments, and leave it
-- with these sites and messages.
abbrev pub WireEventsLeadTo : Sets → List Event → List Outcome → List Table → List (List ℕ) → Type 0
WireEventsLeadTo sets events outcomes tables messages =
    AreOutcomes language sets events outcomes
    × IsWireWorld tables messages (reach_sets sets events outcomes)

-- What sessions are in a world.
pub record AreEvents : Type 0 where
  -- frames that are served are events, whatever messages there are
  pub some : (site : ℕ) (bodies : List (List ℕ)) (before after : Table) (replies : List ℕ)
      (messages : List (List ℕ)) → ServesAll bodies before after replies
      → (events : List Event) × (outcomes : List Outcome) × (messages' : List (List ℕ))
      × ServesAllIn site bodies before after replies messages events outcomes messages'
  -- with these events, whose outcomes are those that the replies tell, the site of the session is
  -- the site of the world, and all others are as they were
  pub sites : (site : ℕ) (bodies : List (List ℕ)) (before after : Table) (replies : List ℕ)
      (messages : List (List ℕ)) (events : List Event) (outcomes : List Outcome)
      (messages' : List (List ℕ)) (tables : List Table) (sets : Sets)
      → ServesAllIn site bodies before after replies messages events outcomes messages'
      → All IsBody bodies → slice_get tables site ≡ Some before → IsWireWorld tables messages sets
      → WireEventsLeadTo sets events outcomes (slice_set tables site after) messages'
