-- Layers bytes that come back.
use Rattle.std.proofs.Common.{◌≡◌, inl, inr, ℕ, List, ◌∷◌, sym, ap, ◌∙◌, subst}
use Rattle.cue_layers.specs.Bytes.{version, layers_bytes, IsLayersBytes, IsLayersRefusal, IsOtherLayersVersion}
use Rattle.cue_layers.specs.Maps.{IsMapOfPuts}
use Rattle.cue_layers.specs.Puts.{Put}
use Rattle.cue_layers.specs.Refusals.{out_of_memory}
use Rattle.cue_layers.specs.declared.layer.Layer.{Layer}
use Rattle.cue_layers.specs.declared.refusal.LayersRefusal.{LayersRefusal}
use Rattle.cue_layers.proofs.OneSpelling.{one_of_bytes}
use Rattle.cue_layers_world.specs.Inner.Steps.{IsHeld}

-- the bytes of the map of a set of puts are those of no other map
pub read_back : (bytes : List ℕ) (puts : List Put) (layers other : List Layer) → IsHeld bytes → IsMapOfPuts puts layers → bytes ≡ layers_bytes layers → IsLayersBytes bytes other → IsMapOfPuts puts other
read_back bytes puts layers other held of is read =
    subst (IsMapOfPuts puts) (one_of_bytes bytes layers other held (record { is_map = of.is_map; spelled = is }) read) of

abbrev fifth : List ℕ → ℕ
fifth (a ∷ b ∷ c ∷ d ∷ e ∷ rest) = e
fifth rest = 0

no_other_version : (bytes : List ℕ) (layers : List Layer) → bytes ≡ layers_bytes layers → IsOtherLayersVersion bytes → ⊥
no_other_version bytes layers is other = other.3 (sym (ap fifth other.2) ∙ ap fifth is)

-- they are refused only where memory runs out
pub only_memory : (bytes : List ℕ) (puts : List Put) (layers : List Layer) (why : LayersRefusal) → IsMapOfPuts puts layers → bytes ≡ layers_bytes layers → IsLayersRefusal bytes why → why ≡ out_of_memory
only_memory bytes puts layers why of is (inl (inl version)) = absurd (no_other_version bytes layers is version.1)
only_memory bytes puts layers why of is (inl (inr none)) = absurd (none.2 layers (record { is_map = of.is_map; spelled = is }))
only_memory bytes puts layers why of is (inr memory) = memory
