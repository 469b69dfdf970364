-- Sites at which owners put, and which take what others have put. A world is known by sets of puts:
-- which ones each site has accepted, directly or inside messages, and which ones each message was
-- made of. A list of puts stands for the set of its members.
use Rattle.std.specs.Prelude.{◌≡◌, ◌⊎◌, ℕ, ◌<◌, ◌^◌, List, [], ◌∷◌, ◌++◌, length, map, replicate}
use Rattle.std.specs.Prelude.{slice_get, slice_set, unwrap_or}
use Rattle.std.specs.List.{AllByRecursion}
use Rattle.cue_lattice.specs.World.{Piece, text, state}
use Rattle.cue_policies.specs.declared.kind.LayerKind.{LayerKind}
use Rattle.cue_replica.specs.Accepted.{IsAcceptable}
use Rattle.cue_replica.specs.Language.{language}
use Rattle.cue_layers.specs.Bytes.{layers_mark, IsLayersBytes, IsLayersRefusal}
use Rattle.cue_layers.specs.Layers.{key}
use Rattle.cue_layers.specs.Maps.{commons_put, put_of}
use Rattle.cue_layers.specs.Names.{IsLayerName}
use Rattle.cue_layers.specs.Puts.{Put, of_puts, IsNextRevision}
use Rattle.cue_layers.specs.Refusals.{piece_of_refusal, out_of_memory, MayBe}
use Rattle.cue_layers.specs.declared.layer.Layer.{Layer}
use Rattle.cue_layers.specs.declared.refusal.LayersRefusal.{LayersRefusal}
use Rattle.cue_layers_world.specs.Refusals.{IsPutEventRefusal, IsLayersTextRefusal, IsLayersStateRefusal}
use Rattle.cue_layers_world.specs.declared.world.LayersEvent.{LayersEvent}
use Rattle.cue_layers_world.specs.declared.world.LayersEvent.TheVariants as events
use Rattle.cue_layers_world.specs.declared.world.LayersOutcome.{LayersOutcome}
use Rattle.cue_layers_world.specs.declared.world.LayersOutcome.TheVariants as outcomes

-- the set of each site and of each message
pub record LayerSets : Type 0 where
  pub sites : List (List Put)
  pub messages : List (List Put)

-- at the start each site has accepted nothing, and there is no message
abbrev pub start_layers : ℕ → LayerSets
start_layers count = record { sites = replicate count []; messages = [] }

-- the set of a site, and of a message
abbrev pub puts_at : List (List Put) → ℕ → List Put
puts_at sets number = unwrap_or (slice_get sets number) []

-- a site accepts more puts
abbrev pub add_to_layers : LayerSets → ℕ → List Put → LayerSets
add_to_layers sets site puts =
    record {
      sites = slice_set sets.sites site (puts_at sets.sites site ++ puts);
      messages = sets.messages;
    }

-- the set of a site becomes the next message
abbrev pub send_set : LayerSets → ℕ → LayerSets
send_set sets site =
    record { sites = sets.sites; messages = sets.messages ++ puts_at sets.sites site ∷ [] }

-- the bytes begin as all layers bytes do
abbrev pub IsMarked : List ℕ → Type 0
IsMarked bytes = (rest : List ℕ) × (bytes ≡ layers_mark ++ rest)

-- An owner may put this, with this revision: the next one of the key after all that the site has
-- accepted.
pub record MayPutEvent (puts : List Put) (kind : LayerKind) (name : List ℕ) (pieces : List Piece)
    (revision : ℕ) : Type 0 where
  pub is_name : IsLayerName name
  pub acceptable : AllByRecursion IsAcceptable pieces
  pub may_be : MayBe kind pieces
  pub is_next : IsNextRevision of_puts puts (key kind name) revision
  pub small : revision < 2 ^ 64

-- The puts that bytes from outside bring: each layer of layers bytes, or a state for the commons.
abbrev pub BringsPuts : List ℕ → List Put → Type 0
BringsPuts bytes puts =
    (IsMarked bytes
    × ((layers : List Layer) × IsLayersBytes bytes layers × (puts ≡ map put_of layers)))
    ⊎ ((¬ IsMarked bytes) × language.IsState bytes × (puts ≡ commons_put (state bytes ∷ []) ∷ []))

-- the site and the message that an event names are there
abbrev pub IsMapThere : LayerSets → LayersEvent → Type 0
IsMapThere sets (events.Put site kind name pieces) = site < length sets.sites
IsMapThere sets (events.Submit site t) = site < length sets.sites
IsMapThere sets (events.Send site) = site < length sets.sites
IsMapThere sets (events.Deliver site message) =
    (site < length sets.sites) × (message < length sets.messages)
IsMapThere sets (events.Foreign site bytes) = site < length sets.sites

-- An event succeeds with this outcome, and leaves these sets. A put without pieces is a removal.
abbrev pub Succeeds : LayerSets → LayersEvent → LayersOutcome → LayerSets → Type 0
Succeeds old (events.Put site kind name pieces) (outcomes.Put revision) new =
    MayPutEvent (puts_at old.sites site) kind name (map piece_of_refusal pieces.items) revision
    × (new ≡ add_to_layers old site (record {
      kind = kind;
      name = name;
      revision = revision;
      pieces = map piece_of_refusal pieces.items;
    } ∷ []))
Succeeds old (events.Submit site t) outcomes.Accepted new =
    language.IsLegal t × (new ≡ add_to_layers old site (commons_put (text t ∷ []) ∷ []))
Succeeds old (events.Send site) (outcomes.Sent number) new =
    (number ≡ length old.messages) × (new ≡ send_set old site)
Succeeds old (events.Deliver site message) outcomes.Accepted new =
    new ≡ add_to_layers old site (puts_at old.messages message)
Succeeds old (events.Foreign site bytes) outcomes.Accepted new =
    (puts : List Put) × BringsPuts bytes.items puts × (new ≡ add_to_layers old site puts)
Succeeds old event outcome new = ⊥

-- Why an event is refused. A message of the world is refused only where memory runs out.
abbrev pub IsWorldRefusal : LayerSets → LayersEvent → LayersRefusal → Type 0
IsWorldRefusal sets (events.Put site kind name pieces) why =
    IsPutEventRefusal (puts_at sets.sites site) kind name (map piece_of_refusal pieces.items) why
IsWorldRefusal sets (events.Submit site t) why = IsLayersTextRefusal t why
IsWorldRefusal sets (events.Send site) why = why ≡ out_of_memory
IsWorldRefusal sets (events.Deliver site message) why = why ≡ out_of_memory
IsWorldRefusal sets (events.Foreign site bytes) why =
    (IsMarked bytes.items × IsLayersRefusal bytes.items why)
    ⊎ ((¬ IsMarked bytes.items) × IsLayersStateRefusal bytes.items why)

-- What an event may come to, and the sets after it. `NoSuch` comes exactly where there is no such
-- site or message. It changes nothing, and neither does a refusal.
abbrev pub LayersHappen : LayerSets → LayersEvent → LayersOutcome → LayerSets → Type 0
LayersHappen old event outcomes.NoSuch new = (¬ IsMapThere old event) × (new ≡ old)
LayersHappen old event (outcomes.Refused why) new =
    IsMapThere old event × IsWorldRefusal old event why × (new ≡ old)
LayersHappen old event outcome new = IsMapThere old event × Succeeds old event outcome new

-- From these sets a list of events, one outcome for each, leads to the last ones.
abbrev pub LayersReach : LayerSets → List LayersEvent → List LayersOutcome → LayerSets → Type 0
LayersReach sets [] [] last = last ≡ sets
LayersReach sets (event ∷ rest) (outcome ∷ results) last =
    (next : LayerSets) × LayersHappen sets event outcome next × LayersReach next rest results last
LayersReach sets rest results last = ⊥
