-- The entries of journals of layers, and the map that they stand for.
use Rattle.std.specs.Prelude.{◌≡◌, ℕ, List, [], ◌∷◌, ◌++◌}
use Rattle.cue_policies.specs.declared.kind.LayerKind.TheVariants as kinds
use Rattle.cue_replica.specs.Language.{empty_site}
use Rattle.cue_layers.specs.declared.layer.Layer.{Layer}
use Rattle.cue_layers.specs.Bytes.{layers_bytes}
use Rattle.cue_layers.specs.Layers.{IsMap}
use Rattle.cue_layers.specs.Maps.{IsJoin}

-- the map of a new site: the commons, which says nothing
abbrev pub new_map : List Layer
new_map = record { kind = kinds.Layer; name = []; revision = 0; content = empty_site } ∷ []

-- an entry: 2, and then the layers bytes of a map
abbrev pub layers_entry : List Layer → List ℕ
layers_entry layers = 2 ∷ layers_bytes layers

-- each entry is that of a map, and these are the layers of all these maps
abbrev pub AreLayersIn : List (List ℕ) → List Layer → Type 0
AreLayersIn [] layers = layers ≡ []
AreLayersIn (entry ∷ entries) layers =
    (first others : List Layer) × IsMap first × (entry ≡ layers_entry first) × AreLayersIn entries others
    × (layers ≡ first ++ others)

-- the map is the join of the maps of all entries
abbrev pub StandForMap : List (List ℕ) → List Layer → Type 0
StandForMap entries map = (layers : List Layer) × AreLayersIn entries layers × IsJoin new_map layers map
