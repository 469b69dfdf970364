-- What each kind of event does to sites and messages, step by step, and what holds on the way.
use Rattle.std.specs.Prelude.{◌≡◌, ◌⊎◌, ℕ, ◌+◌, ◌^◌, ◌<◌, ◌≤◌, List, [], ◌∷◌, ◌++◌, length, Some}
use Rattle.std.specs.Prelude.{slice_get, slice_set, Vec, vec_len, vec_capacity}
use Rattle.std.specs.Global.{Global}
use Rattle.cue_lattice.specs.Refusal.{memory}
use Rattle.cue_lattice.specs.World as world
use Rattle.cue_lattice.specs.World.{Sets, AllAlong, IsUnified, IsEventOutcome}
use Rattle.cue_replica.specs.declared.world.Event.{Event}
use Rattle.cue_replica.specs.declared.world.Outcome.{Outcome}
use Rattle.cue_replica.specs.declared.world.Outcome.TheVariants.{Accepted, Sent, Refused, NoSuch}
use Rattle.cue_replica.specs.Language.{Table, language}
use Rattle.cue_replica.specs.World.{event_of, outcome_of, IsSentOf, TakesState}

-- each site and each message is what its set of pieces makes it
pub record TablesAgree (replicas : List Table) (messages : List (Vec ℕ Global))
    (sets : Sets) : Type 0 where
  pub sites : AllAlong (IsUnified language) replicas sets.sites
  pub sent : AllAlong IsSentOf messages sets.messages

-- What may happen at a site: there is none of this number, and nothing changes; or its table, and
-- no other, takes a step.
abbrev pub HappensAtSite : (Table → Table → Outcome → Type 0) → List Table → ℕ → List Table
    → Outcome → Type 0
HappensAtSite Step old site new outcome =
    ((length old ≤ site) × (new ≡ old) × (outcome ≡ NoSuch))
    ⊎ ((before after : Table) × (slice_get old site ≡ Some before)
    × (new ≡ slice_set old site after) × Step before after outcome)

-- a state is sent: it becomes the next message
abbrev pub SendsState : List Table → ℕ → List (Vec ℕ Global) → List (Vec ℕ Global) → Outcome → Type 0
SendsState replicas site old new (Sent number) =
    (table : Table) × (bytes : Vec ℕ Global) × (slice_get replicas site ≡ Some table)
    × (bytes.items ≡ language.written table)
    × (number ≡ length old) × (new ≡ old ++ bytes ∷ [])
SendsState replicas site old new (Refused why) = (site < length replicas) × (why ≡ memory) × (new ≡ old)
SendsState replicas site old new NoSuch = (length replicas ≤ site) × (new ≡ old)
SendsState replicas site old new Accepted = ⊥

-- a memory can hold the bytes
abbrev pub IsHeld : List ℕ → Type 0
IsHeld bytes = length bytes < 2 ^ 64

-- a message is handed to a site: there is none of this number, and nothing changes; or its bytes
-- are handed in
abbrev pub DeliversState : List (Vec ℕ Global) → ℕ → List Table → ℕ → List Table → Outcome → Type 0
DeliversState messages message old site new outcome =
    ((length messages ≤ message) × (new ≡ old) × (outcome ≡ NoSuch))
    ⊎ ((bytes : Vec ℕ Global) × (slice_get messages message ≡ Some bytes) × IsHeld bytes.items
    × HappensAtSite (TakesState bytes.items) old site new outcome)

-- at most one message more, and no less room
pub record KeepsRoom (old new : Vec (Vec ℕ Global) Global) : Type 0 where
  pub more : vec_len new ≤ vec_len old + 1
  pub room : vec_capacity old ≤ vec_capacity new

-- What an event leaves, for all sets that agree with what was before: an outcome that the
-- definition allows, and what agrees with the sets after it.
pub record EventHappens (replicas : List Table) (messages : List (Vec ℕ Global)) (event : Event)
    (replicas' : List Table) (messages' : List (Vec ℕ Global)) (outcome : Outcome)
    (sets : Sets) : Type 0 where
  pub allowed : IsEventOutcome language sets (event_of event) (outcome_of outcome)
  pub agrees : TablesAgree replicas' messages' (world.sets_after sets (event_of event) (outcome_of outcome))
