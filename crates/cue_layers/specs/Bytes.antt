-- Layers bytes: a mark, the version, how many layers there are, and the layers in their order.
use Rattle.std.specs.Prelude.{◌≡◌, ◌≢◌, ◌⊎◌, ℕ, ◌<◌, ◌^◌, List, [], ◌∷◌, ◌++◌, length, map}
use Rattle.std.specs.Int.{w64, to_be_bytes}
use Rattle.cue_lattice.specs.Refusal.{refusal_at}
use Rattle.cue_lattice.specs.declared.refusal.Kind.TheVariants as faults
use Rattle.cue_codec.specs.Parts.{counted_bytes, text_bytes}
use Rattle.cue_replica.specs.Language.{language}
use Rattle.cue_layers.specs.declared.layer.Layer.{Layer}
use Rattle.cue_layers.specs.declared.refusal.LayersRefusal.{LayersRefusal}
use Rattle.cue_layers.specs.declared.refusal.LayersRefusal.TheVariants.{NotLayers, Store}
use Rattle.cue_layers.specs.Layers.{IsMap, kind_byte}
use Rattle.cue_layers.specs.Maps.{IsMapOfPuts, put_of}
use Rattle.cue_layers.specs.Refusals.{out_of_memory}

-- how all layers bytes begin
abbrev pub layers_mark : List ℕ
layers_mark = 254 ∷ 76 ∷ 65 ∷ 89 ∷ []

-- the version
abbrev pub version : ℕ
version = 1

-- bytes behind their length, which has 8 bytes
unfoldable pub block_bytes : List ℕ → List ℕ
block_bytes bytes = to_be_bytes w64 (length bytes) ++ bytes

-- the kind; the name behind its length, which has 2 bytes; the revision in 8 bytes; and the state
-- bytes of the table
unfoldable pub layer_bytes : Layer → List ℕ
layer_bytes layer =
    kind_byte layer.kind ∷ (text_bytes layer.name ++ (to_be_bytes w64 layer.revision
    ++ block_bytes (language.written layer.content)))

-- the mark, the version, the count in 8 bytes, and the layers
abbrev pub layers_bytes : List Layer → List ℕ
layers_bytes layers = layers_mark ++ (version ∷ counted_bytes layer_bytes layers)

-- these are the layers bytes of the map
pub record IsLayersBytes (bytes : List ℕ) (layers : List Layer) : Type 0 where
  pub is_map : IsMap layers
  pub spelled : bytes ≡ layers_bytes layers

-- the mark, and behind it a byte that is not the version
abbrev pub IsOtherLayersVersion : List ℕ → Type 0
IsOtherLayersVersion bytes =
    (byte : ℕ) × (rest : List ℕ) × (bytes ≡ layers_mark ++ (byte ∷ rest)) × (byte ≢ version)

-- Why bytes are no layers: they are of another version, or else no map has them.
abbrev pub IsLayersFault : List ℕ → LayersRefusal → Type 0
IsLayersFault bytes why =
    ((why ≡ Store (refusal_at faults.Version 0)) × IsOtherLayersVersion bytes)
    ⊎ ((why ≡ NotLayers) × (¬ IsOtherLayersVersion bytes)
    × ((layers : List Layer) → ¬ IsLayersBytes bytes layers))

-- why bytes are refused: memory may run out
abbrev pub IsLayersRefusal : List ℕ → LayersRefusal → Type 0
IsLayersRefusal bytes why = IsLayersFault bytes why ⊎ (why ≡ out_of_memory)

-- bytes of a memory are the layers bytes of one map at most
abbrev pub HaveOneMap : Type 0
HaveOneMap =
    (bytes : List ℕ) (a b : List Layer) → length bytes < 2 ^ 64 → IsLayersBytes bytes a
    → IsLayersBytes bytes b → a ≡ b

-- a map that was read from bytes is the map of its layers as puts
abbrev pub AreOfTheirPuts : Type 0
AreOfTheirPuts =
    (bytes : List ℕ) (layers : List Layer) → length bytes < 2 ^ 64 → IsLayersBytes bytes layers
    → IsMapOfPuts (map put_of layers) layers
