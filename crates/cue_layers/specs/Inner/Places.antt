-- Where a key is in a list of layers, or would be.
use Rattle.std.specs.Prelude.{◌≡◌, ℕ, List, ◌∷◌, ◌++◌, length}
use Rattle.std.specs.List.{AllByRecursion}
use Rattle.cue_layers.specs.declared.layer.Layer.{Layer}
use Rattle.cue_layers.specs.Layers.{Key, key_of, IsKeyBefore}

-- the layer at this index has the key
pub record IsPlace (layers : List Layer) (key : Key) (at : ℕ) : Type 0 where
  pub front : List Layer
  pub layer : Layer
  pub back : List Layer
  pub parts : layers ≡ front ++ layer ∷ back
  pub count : length front ≡ at
  pub same : key_of layer ≡ key

-- no layer has the key: those in front of this index come before it, and the others behind it
pub record IsGap (layers : List Layer) (key : Key) (at : ℕ) : Type 0 where
  pub front : List Layer
  pub back : List Layer
  pub parts : layers ≡ front ++ back
  pub count : length front ≡ at
  pub before : AllByRecursion (λ layer. IsKeyBefore (key_of layer) key) front
  pub behind : AllByRecursion (λ layer. IsKeyBefore key (key_of layer)) back
