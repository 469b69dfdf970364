-- Layers and their keys.
use Rattle.std.specs.Prelude.{◌≡◌, ◌⊎◌, ℕ, ◌<◌, ◌^◌, List, [], ◌∷◌}
use Rattle.std.specs.declared.cmp.Ordering.TheVariants.{Less}
use Rattle.std.specs.Ordering.{nat_cmp}
use Rattle.std.specs.Cmp.Lexicographic.{slice_cmp}
use Rattle.std.specs.List.{AllByRecursion}
use Rattle.cue_policies.specs.declared.kind.LayerKind.{LayerKind}
use Rattle.cue_policies.specs.declared.kind.LayerKind.TheVariants as kinds
use Rattle.cue_policies.specs.WellFormed.{IsWellFormed}
use Rattle.cue_replica.specs.Language.{language}
use Rattle.cue_layers.specs.declared.layer.Layer.{Layer}
use Rattle.cue_layers.specs.Names.{IsLayerName}

-- the byte of a kind
abbrev pub kind_byte : LayerKind → ℕ
kind_byte kinds.Layer = 0
kind_byte kinds.Policy = 1

-- A key: the byte of a kind, and a name.
abbrev pub Key : Type 0
Key = List ℕ

abbrev pub key : LayerKind → List ℕ → Key
key kind name = kind_byte kind ∷ name

abbrev pub key_of : Layer → Key
key_of layer = key layer.kind layer.name

-- keys in the order of their bytes, a beginning before what it begins
abbrev pub IsKeyBefore : Key → Key → Type 0
IsKeyBefore a b = slice_cmp nat_cmp a b ≡ Less

-- each layer comes before those behind it, so that no two have one key
abbrev pub IsInOrder : List Layer → Type 0
IsInOrder [] = Unit {0}
IsInOrder (layer ∷ layers) =
    AllByRecursion (λ other. IsKeyBefore (key_of layer) (key_of other)) layers × IsInOrder layers

-- the commons: the layer proper with the empty name, whose revision is 0
pub record IsCommons (layer : Layer) : Type 0 where
  pub kind : layer.kind ≡ kinds.Layer
  pub name : layer.name ≡ []
  pub revision : layer.revision ≡ 0

abbrev pub BeginsWithCommons : List Layer → Type 0
BeginsWithCommons [] = ⊥
BeginsWithCommons (layer ∷ layers) = IsCommons layer

-- a layer with a name and a revision of its own
pub record IsNamedLayer (layer : Layer) : Type 0 where
  pub name : IsLayerName layer.name
  pub from : 0 < layer.revision
  pub to : layer.revision < 2 ^ 64

-- a layer of a map: its table is valid, and well formed where it is a policy
pub record IsLayer (layer : Layer) : Type 0 where
  pub is : IsCommons layer ⊎ IsNamedLayer layer
  pub valid : language.IsValid layer.content
  pub well_formed : layer.kind ≡ kinds.Policy
      → IsWellFormed (language.table_refuses layer.content)

-- a map of layers: the commons, and the others in the order of their keys
pub record IsMap (layers : List Layer) : Type 0 where
  pub in_order : IsInOrder layers
  pub commons : BeginsWithCommons layers
  pub each : AllByRecursion IsLayer layers
