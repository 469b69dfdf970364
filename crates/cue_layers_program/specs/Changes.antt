-- What becomes of a map in a file where a layer is put or removed.
use Rattle.std.specs.Prelude.{◌≡◌, ◌⊎◌, ℕ, List, [], Option, Some, None}
use Rattle.std.specs.List.{AllByRecursion}
use Rattle.cue_lattice.specs.World.{Piece}
use Rattle.cue_layers.specs.Join.{IsOnePut}
use Rattle.cue_layers.specs.Layers.{key, key_of}
use Rattle.cue_layers.specs.Names.{IsBadAt, IsLayerName}
use Rattle.cue_layers.specs.Puts.{IsUsedUp, of_layers}
use Rattle.cue_layers.specs.Refusals.{MayBe, IsPutRefusal}
use Rattle.cue_layers.specs.View.{IsTooLarge}
use Rattle.cue_layers.specs.declared.Layer.{Layer}
use Rattle.cue_layers.specs.declared.LayersRefusal.{LayersRefusal}
use Rattle.cue_layers.specs.declared.LayersRefusal.TheVariants as reasons
use Rattle.cue_policies.specs.declared.kind.LayerKind.{LayerKind}
use Rattle.cue_program.specs.Calls.{FileCall}
use Rattle.cue_program.specs.Files.{Holdings}
use Rattle.cue_program.specs.Inputs.{Inputs, AreInputPieces, inputs_of}
use Rattle.cue_program.specs.Runs.{IsStopOn}
use Rattle.cue_program.specs.declared.RunError.{RunError}
use Rattle.cue_replica.specs.Accepted.{IsAcceptable}
use Rattle.cue_layers_program.specs.MapFiles.{ReadsMap, StopsReadingMap, PutsMap, StopsPuttingMap}
use Rattle.cue_layers_program.specs.Stops.{IsMemoryLayersStop, IsRefusalLayersStop, stop_of}
use Rattle.cue_layers_program.specs.declared.stop.LayersStop.{LayersStop}

-- the inputs were put under a name of the map, at this revision
abbrev pub IsMapChange : List Layer → LayerKind → List ℕ → Inputs → List Layer → ℕ → Type 0
IsMapChange before kind name inputs after revision =
    (pieces : List Piece) × AreInputPieces inputs pieces × IsOnePut before kind name pieces after revision

-- Why inputs are not put under a name: the first that is refused or can't be read; or else the
-- policy that they make is not well formed; or else the name has had the last revision. Or memory
-- ran out.
abbrev pub IsChangeStop : List Layer → LayerKind → List ℕ → Inputs → LayersStop → Type 0
IsChangeStop before kind name inputs stop =
    ((end : RunError) × IsStopOn inputs end × (stop ≡ stop_of end))
    ⊎ ((pieces : List Piece) × AreInputPieces inputs pieces × AllByRecursion IsAcceptable pieces
    × (((MayBe kind pieces → ⊥) × IsRefusalLayersStop reasons.NotWellFormed stop)
    ⊎ (MayBe kind pieces × IsUsedUp of_layers before (key kind name)
    × IsRefusalLayersStop reasons.RevisionsUsed stop)))
    ⊎ IsMemoryLayersStop stop

-- the view is too large after a change, and was not before it
abbrev pub IsMadeTooLarge : ℕ → List Layer → List Layer → Type 0
IsMadeTooLarge limit before after = IsTooLarge limit after × (IsTooLarge limit before → ⊥)

-- the name is bad, at this place
abbrev pub IsBadName : List ℕ → LayersStop → Type 0
IsBadName name stop = (place : ℕ) × IsBadAt name place × IsRefusalLayersStop (reasons.BadName place) stop

-- What is put, and where: the layer of a kind and name, in the map in a file. Of its inputs, files
-- or else a reader, these bytes are known. The view is to have no more rows than the limit.
pub record PutOrder : Type 0 where
  pub kind : LayerKind
  pub name : List ℕ
  pub map : List ℕ
  pub files : List (List ℕ)
  pub input : Option (List ℕ)
  pub limit : ℕ

abbrev pub order : LayerKind → List ℕ → List ℕ → List (List ℕ) → Option (List ℕ) → ℕ → PutOrder
order kind name map files input limit =
    record { kind = kind; name = name; map = map; files = files; input = input; limit = limit }

-- The put was made: the map was read, the inputs were put, and the map was put back. The view is too
-- large only where it was before.
abbrev pub IsPutMade : {S D M : Type 0} → (S → FileCall D M → S → Type 0) → (S → Option Holdings)
    → PutOrder → S → S → ℕ → Type 0
IsPutMade {S} Makes held order old new revision =
    (before after : List Layer) × (s : S) × ReadsMap Makes held order.map before old s
    × IsMapChange before order.kind order.name (inputs_of (held s) order.files order.input) after revision
    × (IsTooLarge order.limit after → IsTooLarge order.limit before)
    × PutsMap Makes order.map after s new

-- What stopped a put, in the order of what is looked at: the name, the map, the inputs and the put of
-- them, the limit. Only then the map is put back, and may not be.
abbrev pub IsPutStop : {S D M : Type 0} → (S → FileCall D M → S → Type 0) → (S → Option Holdings)
    → PutOrder → S → S → LayersStop → Type 0
IsPutStop {S} Makes held order old new stop =
    (IsBadName order.name stop × (new ≡ old))
    ⊎ (IsLayerName order.name × StopsReadingMap Makes held order.map old new stop)
    ⊎ (IsLayerName order.name × ((before : List Layer) × ReadsMap Makes held order.map before old new
    × IsChangeStop before order.kind order.name (inputs_of (held new) order.files order.input) stop))
    ⊎ ((before after : List Layer) × (revision : ℕ) × ReadsMap Makes held order.map before old new
    × IsMapChange before order.kind order.name (inputs_of (held new) order.files order.input) after revision
    × IsMadeTooLarge order.limit before after × IsRefusalLayersStop reasons.ViewTooLarge stop)
    ⊎ ((before after : List Layer) × (revision : ℕ) × (s : S)
    × ReadsMap Makes held order.map before old s
    × IsMapChange before order.kind order.name (inputs_of (held s) order.files order.input) after revision
    × StopsPuttingMap Makes order.map s new stop)

-- no layer of the map has the key
abbrev pub IsAbsent : LayerKind → List ℕ → List Layer → Type 0
IsAbsent kind name layers = AllByRecursion (λ layer. key_of layer ≡ key kind name → ⊥) layers

-- What a removal came to: the name was never put in the map, and nothing was written; or a put
-- without pieces was made, and the map was put back.
abbrev pub IsRemoved : {S D M : Type 0} → (S → FileCall D M → S → Type 0) → (S → Option Holdings)
    → LayerKind → List ℕ → List ℕ → S → S → Option ℕ → Type 0
IsRemoved Makes held kind name map old new None =
    (before : List Layer) × ReadsMap Makes held map before old new × IsAbsent kind name before
IsRemoved {S} Makes held kind name map old new (Some revision) =
    (before after : List Layer) × (s : S) × ReadsMap Makes held map before old s
    × (IsAbsent kind name before → ⊥) × IsOnePut before kind name [] after revision
    × PutsMap Makes map after s new

-- What stopped a removal, in the order of what is looked at: the name, the map, the put. Only then
-- the map is put back, and may not be.
abbrev pub IsRemovalStop : {S D M : Type 0} → (S → FileCall D M → S → Type 0) → (S → Option Holdings)
    → LayerKind → List ℕ → List ℕ → S → S → LayersStop → Type 0
IsRemovalStop {S} Makes held kind name map old new stop =
    (IsBadName name stop × (new ≡ old))
    ⊎ (IsLayerName name × StopsReadingMap Makes held map old new stop)
    ⊎ ((before : List Layer) × (why : LayersRefusal) × ReadsMap Makes held map before old new
    × IsPutRefusal before kind name [] why × IsRefusalLayersStop why stop)
    ⊎ ((before after : List Layer) × (revision : ℕ) × (s : S) × ReadsMap Makes held map before old s
    × IsOnePut before kind name [] after revision × StopsPuttingMap Makes map s new stop)
