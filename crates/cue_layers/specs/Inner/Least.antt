-- Layers that are left out in turn while a view stays too large.
use Rattle.std.specs.Prelude.{◌≡◌, ◌⊎◌, ℕ, ◌+◌, ◌<◌, ◌≤◌, List, ◌∷◌, ◌++◌, length, take, drop}
use Rattle.std.specs.List.{AllByRecursion}
use Rattle.cue_layers.specs.declared.layer.Layer.{Layer}
use Rattle.cue_layers.specs.Layers.{IsLayer}
use Rattle.cue_layers.specs.Puts.{HasElement}
use Rattle.cue_layers.specs.View.{IsTooLarge}

-- each of these is one of the others
abbrev pub AreSomeOf : List Layer → List Layer → Type 0
AreSomeOf layers kept = (layer : Layer) → HasElement kept layer → HasElement layers layer

-- some of the layers, the view of which is too large
pub record IsLargePart (limit : ℕ) (layers kept : List Layer) : Type 0 where
  pub each : AllByRecursion IsLayer kept
  pub some : AreSomeOf layers kept
  pub large : IsTooLarge limit kept
  pub few : length kept ≤ length layers

-- So many layers from an index on were left out, or without them the view is not too large.
pub record IsRound (limit at size : ℕ) (layers kept : List Layer) : Type 0 where
  pub part : IsLargePart limit layers kept
  pub within : at ≤ length kept
  pub left : (length kept < length layers)
      ⊎ ((kept ≡ layers) × ¬ IsTooLarge limit (take at layers ++ drop (at + size) layers))

-- Where single layers were tried, and none was left out, none can be.
pub record IsPass (limit size : ℕ) (layers kept : List Layer) : Type 0 where
  pub part : IsLargePart limit layers kept
  pub least : size ≡ 1 → length kept ≡ length layers → (front back : List Layer) (layer : Layer)
      → kept ≡ front ++ layer ∷ back → ¬ IsTooLarge limit (front ++ back)
