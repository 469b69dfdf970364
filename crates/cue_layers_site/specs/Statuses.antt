-- The statuses and fields that requests of layers are answered with.
use Rattle.std.specs.Prelude.{ℕ, List, [], ◌∷◌, ◌++◌, codes}
use Rattle.std.specs.Fmt.{decimal}
use Rattle.hex.specs.Hex.{encode_lower}
use Rattle.http1.specs.Fields.{Header}
use Rattle.sha2.specs.Sha256.{sha256}
use Rattle.cue_replica.specs.Language.{language}
use Rattle.cue_layers.specs.declared.layer.Layer.{Layer}
use Rattle.cue_layers.specs.declared.refusal.LayersRefusal.{LayersRefusal}
use Rattle.cue_layers.specs.declared.refusal.LayersRefusal.TheVariants as reasons
use Rattle.cue_service.specs.Statuses.{status_of_refusal}

-- the status of a refusal
abbrev pub status_of_reason : LayersRefusal → ℕ
status_of_reason (reasons.Store why) = status_of_refusal why.kind
status_of_reason (reasons.InPiece index why) = status_of_refusal why.kind
status_of_reason reasons.NotLayers = 422
status_of_reason (reasons.BadName place) = 400
status_of_reason reasons.NotWellFormed = 422
status_of_reason reasons.RevisionsUsed = 409
status_of_reason reasons.ViewTooLarge = 413

-- The tag of a layer: its revision, and SHA-256 of the state bytes of its table.
abbrev pub layer_tag : Layer → List ℕ
layer_tag layer =
    34 ∷ (decimal layer.revision ++ 45 ∷ (encode_lower (sha256 (language.written layer.content)) ++ 34 ∷ []))

abbrev pub layer_tag_field : Layer → Header
layer_tag_field layer = (codes "etag", layer_tag layer)
