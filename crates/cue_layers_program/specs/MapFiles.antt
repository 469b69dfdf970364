-- A map of layers that lies in a file, and the calls that read it and put it there.
use Rattle.std.specs.Prelude.{◌≡◌, ◌⊎◌, ℕ, List, [], Option, Some, None}
use Rattle.cue_layers.specs.Bytes.{IsLayersBytes, IsLayersFault, layers_bytes}
use Rattle.cue_layers.specs.Maps.{IsMapOfPuts}
use Rattle.cue_layers.specs.declared.Layer.{Layer}
use Rattle.cue_layers.specs.declared.LayersRefusal.{LayersRefusal}
use Rattle.cue_program.specs.Calls.{FileCall, looked_at, PutsFile}
use Rattle.cue_program.specs.Files.{Holdings, IsWholeFile, known_at}
use Rattle.cue_program.specs.Stopped.{StopsPutting}
use Rattle.cue_program.specs.declared.files.FileForm.{FileForm}
use Rattle.cue_program.specs.declared.files.FileForm.TheVariants as forms
use Rattle.cue_layers_program.specs.Stops.{IsDeviceLayersStop, IsMemoryLayersStop, IsRefusalLayersStop, IsUnreadLayersStop}
use Rattle.cue_layers_program.specs.declared.stop.LayersStop.{LayersStop}

-- The map under a name, by what stands there: where nothing does, a new one.
abbrev pub IsMapAt : Option Holdings → List ℕ → FileForm → List Layer → Type 0
IsMapAt held name forms.Nothing layers = IsMapOfPuts [] layers
IsMapAt held name form layers =
    (bytes : List ℕ) × IsWholeFile (known_at held name) bytes × IsLayersBytes bytes layers

-- The map under a name was read: what stands there was looked at, and then files were only read.
abbrev pub ReadsMap : {S D M : Type 0} → (S → FileCall D M → S → Type 0) → (S → Option Holdings)
    → List ℕ → List Layer → S → S → Type 0
ReadsMap Makes held name layers before after =
    (form : FileForm) × Makes before (looked_at name (Some form)) after
    × IsMapAt (held after) name form layers

-- why there is no map under a name: it can't be read, or its bytes are no layers; or memory ran out
abbrev pub IsMapFault : Option (List ℕ) → LayersStop → Type 0
IsMapFault known stop =
    IsUnreadLayersStop known stop
    ⊎ ((bytes : List ℕ) × (why : LayersRefusal) × IsWholeFile known bytes × IsLayersFault bytes why
    × IsRefusalLayersStop why stop)
    ⊎ IsMemoryLayersStop stop

-- The map under a name was not read.
abbrev pub StopsReadingMap : {S D M : Type 0} → (S → FileCall D M → S → Type 0)
    → (S → Option Holdings) → List ℕ → S → S → LayersStop → Type 0
StopsReadingMap Makes held name before after stop =
    (Makes before (looked_at name None) after × IsDeviceLayersStop stop)
    ⊎ ((form : FileForm) × Makes before (looked_at name (Some form)) after
    × IsMapFault (known_at (held after) name) stop)

-- the map was put under a name, by the calls that put its layers bytes there and no others
abbrev pub PutsMap : {S D M : Type 0} → (S → FileCall D M → S → Type 0) → List ℕ → List Layer
    → S → S → Type 0
PutsMap Makes name layers before after = PutsFile Makes name (layers_bytes layers) before after

-- It was not put: memory ran out before any call was made; or no more calls were made than where
-- bytes can't be put there.
abbrev pub StopsPuttingMap : {S D M : Type 0} → (S → FileCall D M → S → Type 0) → List ℕ
    → S → S → LayersStop → Type 0
StopsPuttingMap Makes name before after stop =
    (IsMemoryLayersStop stop × (after ≡ before))
    ⊎ ((IsDeviceLayersStop stop ⊎ IsMemoryLayersStop stop) × StopsPutting Makes name before after)
