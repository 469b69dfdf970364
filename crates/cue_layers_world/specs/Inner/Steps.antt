-- What each kind of event does to sites and messages, step by step, and what holds on the way.
use Rattle.std.specs.Prelude.{◌≡◌, ◌⊎◌, ℕ, ◌+◌, ◌^◌, ◌<◌, ◌≤◌, List, [], ◌∷◌, ◌++◌, length, Some}
use Rattle.std.specs.Prelude.{slice_get, slice_set, Vec, vec_len, vec_capacity}
use Rattle.std.specs.Global.{Global}
use Rattle.cue_lattice.specs.World.{AllAlong, Piece}
use Rattle.cue_policies.specs.declared.kind.LayerKind.{LayerKind}
use Rattle.cue_replica.specs.Language.{language}
use Rattle.cue_layers.specs.Bytes.{layers_bytes, IsLayersBytes, IsLayersRefusal}
use Rattle.cue_layers.specs.Join.{IsOnePut, CommonsGrows}
use Rattle.cue_layers.specs.Layers.{IsMap}
use Rattle.cue_layers.specs.Maps.{IsJoin}
use Rattle.cue_layers.specs.Refusals as layers
use Rattle.cue_layers.specs.Refusals.{out_of_memory}
use Rattle.cue_layers.specs.declared.layer.Layer.{Layer}
use Rattle.cue_layers_world.specs.Refusals.{IsLayersTextRefusal, IsLayersStateRefusal}
use Rattle.cue_layers_world.specs.Sites.{IsSiteOf, IsMessageOfMap}
use Rattle.cue_layers_world.specs.World.{LayerSets, LayersHappen, IsMarked}
use Rattle.cue_layers_world.specs.declared.world.LayersEvent.{LayersEvent}
use Rattle.cue_layers_world.specs.declared.world.LayersOutcome.{LayersOutcome}
use Rattle.cue_layers_world.specs.declared.world.LayersOutcome.TheVariants as outcomes

-- the map of a site
abbrev pub Map : Type 0
Map = List Layer

-- each site and each message is what its set of puts makes it
pub record MapsAgree (maps : List Map) (messages : List (Vec ℕ Global)) (sets : LayerSets) : Type 0 where
  pub sites : AllAlong IsSiteOf maps sets.sites
  pub sent : AllAlong IsMessageOfMap messages sets.messages

-- What may happen at a site: there is none of this number, and nothing changes; or its map, and no
-- other, takes a step.
abbrev pub HappensAtMap : (Map → Map → LayersOutcome → Type 0) → List Map → ℕ → List Map → LayersOutcome → Type 0
HappensAtMap Step old site new outcome =
    ((length old ≤ site) × (new ≡ old) × (outcome ≡ outcomes.NoSuch))
    ⊎ ((before after : Map) × (slice_get old site ≡ Some before)
    × (new ≡ slice_set old site after) × Step before after outcome)

-- an owner puts something
abbrev pub PutsLayer : LayerKind → List ℕ → List Piece → Map → Map → LayersOutcome → Type 0
PutsLayer kind name pieces before after (outcomes.Put revision) =
    IsOnePut before kind name pieces after revision
PutsLayer kind name pieces before after (outcomes.Refused why) =
    (after ≡ before) × layers.IsPutRefusal before kind name pieces why
PutsLayer kind name pieces before after outcome = ⊥

-- a text goes into the commons
abbrev pub SubmitsToMap : List ℕ → Map → Map → LayersOutcome → Type 0
SubmitsToMap text before after outcomes.Accepted =
    language.IsLegal text × CommonsGrows before (language.text_refuses text) after × IsMap after
SubmitsToMap text before after (outcomes.Refused why) = (after ≡ before) × IsLayersTextRefusal text why
SubmitsToMap text before after outcome = ⊥

-- state bytes go into the commons
abbrev pub TakesIntoMap : List ℕ → Map → Map → LayersOutcome → Type 0
TakesIntoMap bytes before after outcomes.Accepted =
    language.IsState bytes × CommonsGrows before (language.state_refuses bytes) after × IsMap after
TakesIntoMap bytes before after (outcomes.Refused why) = (after ≡ before) × IsLayersStateRefusal bytes why
TakesIntoMap bytes before after outcome = ⊥

-- the map with these layers bytes is joined
abbrev pub Joins : List ℕ → Map → Map → LayersOutcome → Type 0
Joins bytes before after outcomes.Accepted =
    (other : Map) × IsLayersBytes bytes other × IsJoin before other after
Joins bytes before after (outcomes.Refused why) = (after ≡ before) × IsLayersRefusal bytes why
Joins bytes before after outcome = ⊥

-- a memory can hold the bytes
abbrev pub IsHeld : List ℕ → Type 0
IsHeld bytes = length bytes < 2 ^ 64

-- bytes from outside are joined as layers, or put into the commons as a state
abbrev pub TakesForeign : List ℕ → List Map → ℕ → List Map → LayersOutcome → Type 0
TakesForeign bytes old site new outcome =
    IsHeld bytes
    × ((IsMarked bytes × HappensAtMap (Joins bytes) old site new outcome)
    ⊎ ((¬ IsMarked bytes) × HappensAtMap (TakesIntoMap bytes) old site new outcome))

-- a map is sent: its layers bytes become the next message
abbrev pub SendsMap : List Map → ℕ → List (Vec ℕ Global) → List (Vec ℕ Global) → LayersOutcome → Type 0
SendsMap sites site old new (outcomes.Sent number) =
    (map : Map) × (bytes : Vec ℕ Global) × (slice_get sites site ≡ Some map)
    × (bytes.items ≡ layers_bytes map)
    × (number ≡ length old) × (new ≡ old ++ bytes ∷ [])
SendsMap sites site old new (outcomes.Refused why) =
    (site < length sites) × (why ≡ out_of_memory) × (new ≡ old)
SendsMap sites site old new outcomes.NoSuch = (length sites ≤ site) × (new ≡ old)
SendsMap sites site old new outcome = ⊥

-- a message is joined at a site: there is none of this number, and nothing changes; or its bytes
-- are joined
abbrev pub DeliversMap : List (Vec ℕ Global) → ℕ → List Map → ℕ → List Map → LayersOutcome → Type 0
DeliversMap messages message old site new outcome =
    ((length messages ≤ message) × (new ≡ old) × (outcome ≡ outcomes.NoSuch))
    ⊎ ((bytes : Vec ℕ Global) × (slice_get messages message ≡ Some bytes) × IsHeld bytes.items
    × HappensAtMap (Joins bytes.items) old site new outcome)

-- at most one message more, and no less room
pub record KeepsRoom (old new : Vec (Vec ℕ Global) Global) : Type 0 where
  pub more : vec_len new ≤ vec_len old + 1
  pub room : vec_capacity old ≤ vec_capacity new

-- What an event leaves, by the sets before it: with this outcome it leads to some sets, and sites
-- and messages agree with all sets to which it leads.
pub record StepsMaps (event : LayersEvent) (sites : List Map) (messages : List (Vec ℕ Global))
    (outcome : LayersOutcome) (sets : LayerSets) : Type 0 where
  pub some : (next : LayerSets) × LayersHappen sets event outcome next
  pub every : (next : LayerSets) → LayersHappen sets event outcome next → MapsAgree sites messages next
