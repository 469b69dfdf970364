-- Layers that alone make a view too large, none of which can be left out.
use Rattle.std.specs.Prelude.{◌≡◌, ℕ, List, ◌∷◌, ◌++◌}
use Rattle.cue_layers.specs.declared.layer.Layer.{Layer}
use Rattle.cue_layers.specs.Puts.{HasElement}
use Rattle.cue_layers.specs.View.{IsTooLarge}

-- Some layers of a list: the view of these alone is too large, and without any one of them it is not.
pub record IsLeastTooLarge (limit : ℕ) (layers least : List Layer) : Type 0 where
  pub some : (layer : Layer) → HasElement least layer → HasElement layers layer
  pub large : IsTooLarge limit least
  pub needed : (front back : List Layer) (layer : Layer) → least ≡ front ++ layer ∷ back
      → ¬ IsTooLarge limit (front ++ back)
