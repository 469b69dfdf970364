-- Why a request that would change layers changes nothing, and how that is answered.
use Rattle.std.specs.Prelude.{◌≡◌, ◌⊎◌, ℕ, List, [], ◌∷◌, ◌++◌, codes, decimal, unwrap_or}
use Rattle.std.specs.List.{AllByRecursion}
use Rattle.http.specs.declared.request.Request.{Request}
use Rattle.http1.specs.Fields.{Header}
use Rattle.http_server.specs.declared.response.Response.{Response}
use Rattle.cue_policies.specs.declared.kind.LayerKind.{LayerKind}
use Rattle.cue_layers.specs.declared.layer.Layer.{Layer}
use Rattle.cue_layers.specs.declared.refusal.LayersRefusal.{LayersRefusal}
use Rattle.cue_layers.specs.Layers.{key, key_of}
use Rattle.cue_layers.specs.Names.{IsBadAt}
use Rattle.cue_layers.specs.Refusals.{number_of_reason, reason_name_at, place_of_refusal}
use Rattle.cue_service.specs.Statuses.{HasHead, plain_text, token_field, type_field}
use Rattle.cue_layers_site.specs.declared.access.WriteAccess.{WriteAccess}
use Rattle.cue_layers_site.specs.declared.access.WriteAccess.TheVariants as accesses
use Rattle.cue_layers_site.specs.declared.refusal.ChangeRefusal.{ChangeRefusal}
use Rattle.cue_layers_site.specs.declared.refusal.ChangeRefusal.TheVariants.{Unknown, Barred, Absent, Unmet, Layers, TooLong, NoRoom}
use Rattle.cue_layers_site.specs.Conditions.{IsMet}
use Rattle.cue_layers_site.specs.Requests.{IsNameIn}
use Rattle.cue_layers_site.specs.Statuses.{status_of_reason}

-- the line of a refusal: its number, its name and its place
abbrev pub reason_line : LayersRefusal → List ℕ
reason_line why = codes "refused " ++ decimal (number_of_reason why) ++ codes " "
    ++ unwrap_or (reason_name_at (number_of_reason why)) [] ++ codes " at " ++ decimal (place_of_refusal why)
    ++ codes "\n"

-- the statuses
abbrev pub status_of_change : ChangeRefusal → ℕ
status_of_change Unknown = 401
status_of_change Barred = 403
status_of_change Absent = 404
status_of_change Unmet = 412
status_of_change (Layers why) = status_of_reason why
status_of_change TooLong = 413
status_of_change (NoRoom error) = 507

-- the fields
abbrev pub fields_of_change : ChangeRefusal → List Header
fields_of_change Unknown = token_field ∷ []
fields_of_change Barred = []
fields_of_change Absent = []
fields_of_change Unmet = []
fields_of_change (Layers why) = type_field plain_text ∷ []
fields_of_change TooLong = type_field plain_text ∷ []
fields_of_change (NoRoom error) = type_field plain_text ∷ []

-- The body: the line of a refusal, and nothing where the status says all. What is said of a disk without
-- room, and of an entry that is too long, is not said here.
abbrev pub SaysWhy : ChangeRefusal → List ℕ → Type 0
SaysWhy Unknown body = body ≡ []
SaysWhy Barred body = body ≡ []
SaysWhy Absent body = body ≡ []
SaysWhy Unmet body = body ≡ []
SaysWhy (Layers why) body = body ≡ reason_line why
SaysWhy TooLong body = Unit {0}
SaysWhy (NoRoom error) body = Unit {0}

-- the answer says why nothing changes
abbrev pub IsRefusalAnswer : ChangeRefusal → Response → Type 0
IsRefusalAnswer why response =
    HasHead (status_of_change why) (fields_of_change why) response × SaysWhy why response.body.items

-- no layer has the name: it is none, or was never put
abbrev pub IsAbsentName : LayerKind → List ℕ → List Layer → Type 0
IsAbsentName kind name map =
    ((place : ℕ) × IsBadAt name place) ⊎ AllByRecursion (λ layer. ¬ (key_of layer ≡ key kind name)) map

-- Why layers are not joined: who sent them may not write. What is wrong with the bytes is not said here.
abbrev pub IsJoinReason : WriteAccess → ChangeRefusal → Type 0
IsJoinReason access Unknown = access ≡ accesses.Unknown
IsJoinReason access Barred = access ≡ accesses.Barred
IsJoinReason access Absent = ⊥
IsJoinReason access Unmet = ⊥
IsJoinReason access why = Unit {0}

-- why a name is not put: also that what the request wants of the layer is not so
abbrev pub IsPutReason : LayerKind → List Layer → WriteAccess → Request (List ℕ) → ChangeRefusal → Type 0
IsPutReason kind map access request Unmet =
    (name : List ℕ) × IsNameIn kind request name × ¬ IsMet map kind name request
IsPutReason kind map access request why = IsJoinReason access why

-- why it is not removed: also that no layer has it
abbrev pub IsRemoveReason : LayerKind → List Layer → WriteAccess → Request (List ℕ) → ChangeRefusal → Type 0
IsRemoveReason kind map access request Absent =
    (name : List ℕ) × IsNameIn kind request name × IsAbsentName kind name map
IsRemoveReason kind map access request why = IsPutReason kind map access request why
