-- What a merge of files to one map comes to.
use Rattle.std.specs.Prelude.{◌≡◌, ◌⊎◌, ℕ, List, Option}
use Rattle.cue_layers.specs.declared.Layer.{Layer}
use Rattle.cue_program.specs.Calls.{FileCall}
use Rattle.cue_layers_program.specs.Joined.{IsJoined, IsJoinStop}
use Rattle.cue_layers_program.specs.MapFiles.{PutsMap, StopsPuttingMap}
use Rattle.cue_layers_program.specs.declared.stop.LayersStop.{LayersStop}

-- the map of these files was put under a name, by the calls that put it there and no others
abbrev pub IsMapMerge : {S D M : Type 0} → (S → FileCall D M → S → Type 0) → List ℕ
    → List (Option (List ℕ)) → S → S → Type 0
IsMapMerge Makes name files old new =
    (layers : List Layer) × IsJoined files layers × PutsMap Makes name layers old new

-- What stopped a merge: its files were not joined, and then no file was asked for but those that
-- were read; or the map could not be put there.
abbrev pub IsMapMergeStop : {S D M : Type 0} → (S → FileCall D M → S → Type 0) → List ℕ
    → List (Option (List ℕ)) → S → S → LayersStop → Type 0
IsMapMergeStop Makes name files old new stop =
    (IsJoinStop files stop × (new ≡ old))
    ⊎ ((layers : List Layer) × IsJoined files layers × StopsPuttingMap Makes name old new stop)
