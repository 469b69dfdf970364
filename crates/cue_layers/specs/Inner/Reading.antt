-- The parts of a layer, as they are read from bytes.
use Rattle.std.specs.Prelude.{◌≡◌, ◌⊎◌, ℕ, ◌<◌, ◌^◌, List, [], ◌∷◌, ◌++◌, length}
use Rattle.std.specs.Int.{w64, to_be_bytes}
use Rattle.std.specs.List.{AllByRecursion}
use Rattle.cue_codec.specs.Parts.{text_bytes}
use Rattle.cue_codec.specs.Reading.{IsShort}
use Rattle.cue_policies.specs.declared.kind.LayerKind.{LayerKind}
use Rattle.cue_policies.specs.declared.kind.LayerKind.TheVariants as kinds
use Rattle.cue_replica.specs.Language.{language}
use Rattle.cue_layers.specs.declared.layer.Layer.{Layer}
use Rattle.cue_layers.specs.declared.refusal.LayersRefusal.{LayersRefusal}
use Rattle.cue_layers.specs.declared.refusal.LayersRefusal.TheVariants.{NotLayers}
use Rattle.cue_layers.specs.Bytes.{block_bytes}
use Rattle.cue_layers.specs.Layers.{IsLayer, IsMap, IsInOrder, IsKeyBefore, BeginsWithCommons, kind_byte, key, key_of}
use Rattle.cue_layers.specs.Names.{IsLayerName}
use Rattle.cue_layers.specs.Refusals.{out_of_memory}

-- one thing and another one behind it
abbrev pub AreBoth : {A B : Type 0} → (A → Type 0) → (B → Type 0) → A × B → Type 0
AreBoth va vb both = va both.0 × vb both.1

abbrev pub both_bytes : {A B : Type 0} → (A → List ℕ) → (B → List ℕ) → A × B → List ℕ
both_bytes ca cb both = ca both.0 ++ cb both.1

abbrev pub IsKind : LayerKind → Type 0
IsKind kind = Unit {0}

abbrev pub kind_bytes : LayerKind → List ℕ
kind_bytes kind = kind_byte kind ∷ []

-- a number of 8 bytes
abbrev pub IsWide : ℕ → Type 0
IsWide n = n < 2 ^ 64

abbrev pub wide_bytes : ℕ → List ℕ
wide_bytes n = to_be_bytes w64 n

abbrev pub IsLong : List ℕ → Type 0
IsLong bytes = length bytes < 2 ^ 64

-- the kind and the name; the revision and the state bytes
abbrev pub LayerParts : Type 0
LayerParts = (LayerKind × List ℕ) × (ℕ × List ℕ)

abbrev pub AreParts : LayerParts → Type 0
AreParts = AreBoth (AreBoth IsKind IsShort) (AreBoth IsWide IsLong)

abbrev pub parts_bytes : LayerParts → List ℕ
parts_bytes = both_bytes (both_bytes kind_bytes text_bytes) (both_bytes wide_bytes block_bytes)

abbrev pub parts_of : Layer → LayerParts
parts_of layer =
    ((layer.kind, layer.name), (layer.revision, language.written layer.content))

-- a layer whose state bytes a memory can hold
pub record IsHeld (layer : Layer) : Type 0 where
  pub is_layer : IsLayer layer
  pub long : IsLong (language.written layer.content)

-- a layer with this key may have the revision
abbrev pub MayHave : LayerKind → List ℕ → ℕ → Type 0
MayHave kind name revision =
    ((kind ≡ kinds.Layer) × (name ≡ []) × (revision ≡ 0)) ⊎ (IsLayerName name × (0 < revision))

-- why layers are refused for a reason
abbrev pub IsRefusedFor : LayersRefusal → Type 0 → Type 0
IsRefusedFor why reason = (why ≡ out_of_memory) ⊎ ((why ≡ NotLayers) × reason)

-- a front of a map
pub record AreFront (layers : List Layer) : Type 0 where
  pub in_order : IsInOrder layers
  pub commons : (layers ≡ []) ⊎ BeginsWithCommons layers
  pub each : AllByRecursion IsHeld layers

-- a layer of this key comes behind all others of a map, or is its first
abbrev pub IsKeyBehind : List Layer → LayerKind → List ℕ → Type 0
IsKeyBehind layers kind name =
    ((layers ≡ []) × (name ≡ []))
    ⊎ ((front : List Layer) × (last : Layer) × (layers ≡ front ++ last ∷ [])
    × IsKeyBefore (key_of last) (key kind name))

-- so does the layer
abbrev pub IsBehind : List Layer → Layer → Type 0
IsBehind layers layer = IsKeyBehind layers layer.kind layer.name

-- so many layers, which are a map
abbrev pub AreSoManyOfMap : ℕ → List Layer → Type 0
AreSoManyOfMap count layers = (length layers ≡ count) × AllByRecursion IsHeld layers × IsMap layers

-- the length of its name has 2 bytes
abbrev pub HasShortName : Layer → Type 0
HasShortName layer = IsShort layer.name
