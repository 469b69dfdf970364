-- The view of a map with what the commons says, and how questions about it are answered.
use Rattle.std.specs.Prelude.{◌⊎◌, ℕ, List, [], ◌∷◌, codes}
use Rattle.cue_replica.specs.Language.{Table, language}
use Rattle.cue_replica.specs.declared.question.SiteQuestion.{SiteQuestion}
use Rattle.http.specs.declared.request.Request.{Request}
use Rattle.http_server.specs.declared.response.Response.{Response}
use Rattle.http_server.specs.Response.{IsResponse}
use Rattle.cue_layers.specs.declared.layer.Layer.{Layer}
use Rattle.cue_layers.specs.declared.refusal.LayersRefusal.TheVariants.{ViewTooLarge}
use Rattle.cue_layers.specs.Bytes.{layers_bytes}
use Rattle.cue_layers.specs.Join.{CommonsGrows}
use Rattle.cue_layers.specs.View.{IsViewOf, IsTooLarge}
use Rattle.cue_service.specs.Answering.{IsAsked}
use Rattle.cue_service.specs.Conditions.{HasTag}
use Rattle.cue_service.specs.Statuses.{type_field, plain_bytes, plain_text}
use Rattle.cue_service.specs.Tags.{quoted_digest}
use Rattle.cue_layers_site.specs.Refusals.{reason_line}

-- the most rows that a view may have
abbrev pub row_limit : ℕ
row_limit = 10000000

-- the most bytes that an answer about the view may have
abbrev pub answer_limit : ℕ
answer_limit = 67108864

-- the map with what the commons says
abbrev pub IsWhole : List Layer → Table → List Layer → Type 0
IsWhole map commons whole = CommonsGrows map (language.table_refuses commons) whole

-- it says that the view is too large
abbrev pub IsTooLargeAnswer : Response → Type 0
IsTooLargeAnswer = IsResponse 413 (type_field plain_text ∷ []) (reason_line ViewTooLarge)

-- the answer to a question about the view of the whole map, or that this view is too large
abbrev pub IsViewAnswer : SiteQuestion → List Layer → Table → Request (List ℕ) → Response → Type 0
IsViewAnswer question map commons request response =
    (whole : List Layer) × IsWhole map commons whole
    × (((view : Table) × IsViewOf whole view × IsAsked answer_limit question view request [] response)
    ⊎ (IsTooLarge row_limit whole × IsTooLargeAnswer response))

-- Bytes are sent with this tag. One who has the tag is told that nothing is new.
abbrev pub IsSent : List ℕ → List ℕ → Request (List ℕ) → Response → Type 0
IsSent tag bytes request response =
    (HasTag tag request × IsResponse 304 ((codes "etag", tag) ∷ []) [] response)
    ⊎ ((¬ HasTag tag request)
    × IsResponse 200 ((codes "etag", tag) ∷ type_field plain_bytes ∷ []) bytes response)

-- the layers bytes of the whole map, with their tag
abbrev pub IsSyncAnswer : List Layer → Table → Request (List ℕ) → Response → Type 0
IsSyncAnswer map commons request response =
    (whole : List Layer) × IsWhole map commons whole
    × IsSent (quoted_digest (layers_bytes whole)) (layers_bytes whole) request response

-- the view of a map is not too large, unless that of the map before it was
abbrev pub StaysSmall : Table → List Layer → List Layer → Type 0
StaysSmall commons old new =
    (before after : List Layer) × IsWhole old commons before × IsWhole new commons after
    × (IsTooLarge row_limit after → IsTooLarge row_limit before)
