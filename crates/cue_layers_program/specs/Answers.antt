-- What is answered about the map of joined files.
use Rattle.std.specs.Prelude.{◌≡◌, ◌⊎◌, ℕ, List, [], ◌∷◌, ◌++◌, Option, Some, None, codes, decimal}
use Rattle.std.specs.Int.{w64, to_be_bytes}
use Rattle.std.specs.List.{AllByRecursion}
use Rattle.cue_codec.specs.State.{state_mark}
use Rattle.cue_codec.specs.Version.{version_byte, written_version}
use Rattle.cue_layers.specs.Layers.{key, key_of}
use Rattle.cue_layers.specs.Puts.{HasElement}
use Rattle.cue_layers.specs.View.{IsTooLarge, IsViewOf, IsViewRefusal}
use Rattle.cue_layers.specs.declared.Layer.{Layer}
use Rattle.cue_layers.specs.declared.LayersRefusal.{LayersRefusal}
use Rattle.cue_policies.specs.declared.kind.LayerKind.{LayerKind}
use Rattle.cue_policies.specs.declared.kind.LayerKind.TheVariants as kinds
use Rattle.cue_replica.specs.Language.{Table, language, empty_site}
use Rattle.cue_layers_program.specs.Changes.{IsAbsent, IsBadName}
use Rattle.cue_layers_program.specs.Joined.{IsJoined, IsJoinStop}
use Rattle.cue_layers_program.specs.Stops.{IsMemoryLayersStop, IsRefusalLayersStop}
use Rattle.cue_layers_program.specs.declared.stop.LayersStop.{LayersStop}

-- the table is the view of the map of these files, which is not too large
abbrev pub IsJoinedView : ℕ → List (Option (List ℕ)) → Table → Type 0
IsJoinedView limit files view =
    (layers : List Layer) × IsJoined files layers × IsViewOf layers view
    × (IsTooLarge limit layers → ⊥)

-- what stops a run that asks for a view: its files are not joined; or the view is too large, or
-- memory ran out
abbrev pub IsViewStop : ℕ → List (Option (List ℕ)) → LayersStop → Type 0
IsViewStop limit files stop =
    IsJoinStop files stop
    ⊎ ((layers : List Layer) × (why : LayersRefusal) × IsJoined files layers
    × IsViewRefusal limit layers why × IsRefusalLayersStop why stop)

-- what stands before the name of a layer in a list
abbrev pub kind_word : LayerKind → List ℕ
kind_word kinds.Layer = codes "layer "
kind_word kinds.Policy = codes "policy "

-- what a layer is called in a list: the one without a name is the commons
abbrev pub title : LayerKind → List ℕ → List ℕ
title kind [] = codes "commons"
title kind (byte ∷ name) = kind_word kind ++ byte ∷ name

-- the state bytes of the table tell that it has so many rows, behind a mark and the version
abbrev pub HasRowCount : Table → ℕ → Type 0
HasRowCount table rows =
    (rest : List ℕ)
    × (language.written table ≡ state_mark ++ (version_byte written_version ∷ (to_be_bytes w64 rows ++ rest)))

-- the line of a layer in a list: its title, its revision and its rows
abbrev pub IsLayerLine : Layer → List ℕ → Type 0
IsLayerLine layer line =
    (rows : ℕ) × HasRowCount layer.content rows
    × (line ≡ title layer.kind layer.name ++ (codes " " ++ (decimal layer.revision
    ++ (codes " " ++ (decimal rows ++ codes "\n")))))

-- the text has a line for each layer, in their order
abbrev pub AreLines : List Layer → List ℕ → Type 0
AreLines [] text = text ≡ []
AreLines (layer ∷ layers) text =
    (line rest : List ℕ) × (text ≡ line ++ rest) × IsLayerLine layer line × AreLines layers rest

-- the list of the map of these files
abbrev pub IsLayerList : List (Option (List ℕ)) → List ℕ → Type 0
IsLayerList files text =
    (layers : List Layer) × IsJoined files layers × AreLines layers text

-- the table of a layer, or nothing, where the table says nothing
abbrev pub IsContent : Layer → Option Table → Type 0
IsContent layer (Some table) = (table ≡ layer.content) × (table ≡ empty_site → ⊥)
IsContent layer None = layer.content ≡ empty_site

-- What a name says in a map: what its layer says; or nothing, where it was never put.
abbrev pub IsSaidBy : List Layer → LayerKind → List ℕ → Option Table → Type 0
IsSaidBy layers kind name said =
    ((layer : Layer) × HasElement layers layer × (key_of layer ≡ key kind name) × IsContent layer said)
    ⊎ ((said ≡ None) × IsAbsent kind name layers)

-- what a name says in the map of a file
abbrev pub IsShownOf : Option (List ℕ) → LayerKind → List ℕ → Option Table → Type 0
IsShownOf file kind name said =
    (layers : List Layer) × IsJoined (file ∷ []) layers × IsSaidBy layers kind name said

-- what stops a run that shows a name: it is no name, or its file is refused or can't be read
abbrev pub IsShowStop : Option (List ℕ) → List ℕ → LayersStop → Type 0
IsShowStop file name stop = IsBadName name stop ⊎ IsJoinStop (file ∷ []) stop ⊎ IsMemoryLayersStop stop
