-- A layer of a map as a map of its own.
use Rattle.std.specs.Prelude.{◌≡◌, ◌⊎◌, List}
use Rattle.cue_lattice.specs.OneOf.{OneOf}
use Rattle.cue_layers.specs.declared.layer.Layer.{Layer}
use Rattle.cue_layers.specs.Layers.{Key, key_of, IsCommons, IsMap}
use Rattle.cue_layers.specs.Puts.{HasElement}

-- The map has the layer of the key, and the commons: both as another map has them, and nothing else.
pub record IsExtract (layers : List Layer) (key : Key) (extract : List Layer) : Type 0 where
  pub is_map : IsMap extract
  pub has : OneOf (λ layer. key_of layer ≡ key) extract
  pub among : (layer : Layer) → HasElement extract layer → HasElement layers layer
  pub few : (layer : Layer) → HasElement extract layer → (key_of layer ≡ key) ⊎ IsCommons layer
