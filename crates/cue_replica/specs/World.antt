-- Worlds of sites: how the program's events, outcomes and sites stand to the definition of a world.
use Rattle.std.specs.Prelude.{◌≡◌, ◌⊎◌, ℕ, List, map, Some, slice_get, Vec}
use Rattle.std.specs.Global.{Global}
use Rattle.cue_lattice.specs.Refusal.{memory}
use Rattle.cue_lattice.specs.World as world
use Rattle.cue_lattice.specs.World.{Piece, Sets, IsMessageOf, SamePieces, reach_sets, start_sets, pieces_at}
use Rattle.cue_replica.specs.declared.world.Event.{Event}
use Rattle.cue_replica.specs.declared.world.Event.TheVariants.{Submit, Send, Deliver, Foreign}
use Rattle.cue_replica.specs.declared.world.Outcome.{Outcome}
use Rattle.cue_replica.specs.declared.world.Outcome.TheVariants.{Accepted, Sent, Refused, NoSuch}
use Rattle.cue_replica.specs.Language.{Table, language}
use Rattle.cue_replica.specs.Replica.{AddsRefusals}
use Rattle.cue_replica.specs.Reports.{HaveEqualReports}

-- an event of the program, as the definition has it
abbrev pub event_of : Event → world.Event
event_of (Submit site text) = world.submit site text
event_of (Send site) = world.send site
event_of (Deliver site message) = world.deliver site message
event_of (Foreign site bytes) = world.foreign site bytes.items

-- an outcome of the program, as the definition has it
abbrev pub outcome_of : Outcome → world.Outcome
outcome_of Accepted = world.accepted
outcome_of (Sent number) = world.sent number
outcome_of (Refused why) = world.refused why
outcome_of NoSuch = world.no_such

-- the sets of pieces that a run has reached
abbrev pub reached_sets : ℕ → List Event → List Outcome → Sets
reached_sets sites events outcomes = reach_sets (start_sets sites) (map event_of events) (map outcome_of outcomes)

-- a message has the bytes that a site writes for the table that is the unification of exactly these
-- pieces
abbrev pub IsSentOf : Vec ℕ Global → List Piece → Type 0
IsSentOf message pieces = IsMessageOf language message.items pieces

-- R holds of the tables of each two sites with the same set of pieces
abbrev pub HoldsOfAlike : (Table → Table → Type 0) → List Table → List (List Piece) → Type 0
HoldsOfAlike R replicas sets =
    (i j : ℕ) (a b : Table) → slice_get replicas i ≡ Some a → slice_get replicas j ≡ Some b
    → SamePieces (pieces_at sets i) (pieces_at sets j) → R a b

-- sites with the same set of pieces hold equal tables
abbrev pub AreEqualSites : List Table → List (List Piece) → Type 0
AreEqualSites = HoldsOfAlike (λ a b. a ≡ b)

-- and the same is told of them
abbrev pub HaveSitesEqualReports : List Table → List (List Piece) → Type 0
HaveSitesEqualReports = HoldsOfAlike HaveEqualReports

-- a text is handed in
abbrev pub SubmitsText : List ℕ → Table → Table → Outcome → Type 0
SubmitsText text before after Accepted =
    language.IsLegal text × AddsRefusals before (language.text_refuses text) after × language.IsValid after
SubmitsText text before after (Refused why) =
    (after ≡ before)
    × (((why ≡ memory) × ¬ language.IsTextRefusedAtOnce text) ⊎ language.IsTextFault text why)
SubmitsText text before after outcome = ⊥

-- state bytes are handed in
abbrev pub TakesState : List ℕ → Table → Table → Outcome → Type 0
TakesState bytes before after Accepted =
    language.IsState bytes × AddsRefusals before (language.state_refuses bytes) after
    × language.IsValid after
TakesState bytes before after (Refused why) =
    (after ≡ before)
    × (((why ≡ memory) × ¬ language.IsStateRefusedAtOnce bytes) ⊎ language.IsStateFault bytes why)
TakesState bytes before after outcome = ⊥
