-- What a request wants of the layer that it would replace.
use Rattle.std.specs.Prelude.{◌≡◌, ◌≢◌, ◌⊎◌, ◌==◌, ◌||◌, ℕ, Bool, List, codes}
use Rattle.std.specs.List.{slice_split}
use Rattle.http.specs.declared.request.Request.{Request}
use Rattle.cue_policies.specs.declared.kind.LayerKind.{LayerKind}
use Rattle.cue_replica.specs.Language.{empty_site}
use Rattle.cue_layers.specs.declared.layer.Layer.{Layer}
use Rattle.cue_layers.specs.Layers.{key, key_of}
use Rattle.cue_layers.specs.Puts.{HasElement}
use Rattle.cue_layers_site.specs.Requests.{HasFieldValue}
use Rattle.cue_layers_site.specs.Statuses.{layer_tag}

-- a comma, a space or a tab: what stands between the tags of a list
abbrev pub is_between : ℕ → Bool
is_between byte = ((byte == 44) || (byte == 32)) || (byte == 9)

-- the tags that a field lists
abbrev pub tags_in : List ℕ → List (List ℕ)
tags_in value = slice_split is_between value

-- A field fits a layer: it lists the layer's tag, or it is `*` and the layer says something.
abbrev pub FitsLayer : List ℕ → Layer → Type 0
FitsLayer value layer =
    ((value ≡ codes "*") × (layer.content ≢ empty_site))
    ⊎ ((value ≢ codes "*") × HasElement (tags_in value) (layer_tag layer))

-- it fits the layer of a key
abbrev pub FitsName : List ℕ → List Layer → LayerKind → List ℕ → Type 0
FitsName value map kind name =
    (layer : Layer) × HasElement map layer × (key_of layer ≡ key kind name) × FitsLayer value layer

-- what a request wants of the layer of a key is so: `If-Match` fits it, and `If-None-Match` does not
pub record IsMet (map : List Layer) (kind : LayerKind) (name : List ℕ) (request : Request (List ℕ)) : Type 0 where
  pub match : (value : List ℕ) → HasFieldValue (codes "if-match") value request → FitsName value map kind name
  pub none : (value : List ℕ) → HasFieldValue (codes "if-none-match") value request → ¬ FitsName value map kind name
