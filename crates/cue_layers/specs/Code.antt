-- Layers as stored values: each has a value of its own.
use Rattle.std.specs.Prelude.{◌≡◌, ℕ, zero, suc, List, refl}
use Rattle.std.specs.Coded.{Coded, code_by, coded×, coded_ℕ, coded_list}
use Rattle.cue_policies.specs.declared.kind.LayerKind.{LayerKind}
use Rattle.cue_policies.specs.declared.kind.LayerKind.TheVariants as kinds
use Rattle.cue_replica.specs.Language.{Table}
use Rattle.cue_layers.specs.declared.layer.Layer.{Layer}
use Rattle.cue_layers.specs.Layers.{kind_byte}

abbrev pub kind_at : ℕ → LayerKind
kind_at zero = kinds.Layer
kind_at (suc n) = kinds.Policy

pub kind_again : (kind : LayerKind) → kind_at (kind_byte kind) ≡ kind
kind_again kinds.Layer = refl
kind_again kinds.Policy = refl

abbrev pub LayerCode : Type 0
LayerCode = (ℕ × List ℕ) × (ℕ × Table)

abbrev pub code_of_layer : Layer → LayerCode
code_of_layer layer = ((kind_byte layer.kind, layer.name), (layer.revision, layer.content))

abbrev pub layer_of : LayerCode → Layer
layer_of s =
    record { kind = kind_at s.0.0; name = s.0.1; revision = s.1.0; content = s.1.1 }

pub layer_again : (layer : Layer) → layer_of (code_of_layer layer) ≡ layer
layer_again layer = λ i. record {
  kind = kind_again layer.kind i;
  name = layer.name;
  revision = layer.revision;
  content = layer.content;
}

-- lists of layers, by a code of tables
abbrev pub layers_code : Coded Table → Coded (List Layer)
layers_code table =
    coded_list
    (code_by LayerCode (coded× (coded× coded_ℕ (coded_list coded_ℕ)) (coded× coded_ℕ table)) code_of_layer layer_of layer_again)
