-- The statuses, and the fields of the head, that a site answers with.
use Rattle.std.specs.Prelude.{◌≡◌, ℕ, List, [], ◌∷◌, codes}
use Rattle.http1.specs.Fields.{Header}
use Rattle.http_server.specs.declared.response.Response.{Response}
use Rattle.http_server.specs.Response.{fields_of}
use Rattle.cue_lattice.specs.declared.refusal.Kind.{Kind}
use Rattle.cue_lattice.specs.declared.refusal.Kind.TheVariants as kinds
use Rattle.cue_replica.specs.Language.{Table}
use Rattle.cue_replica.specs.declared.question.SiteQuestion.{SiteQuestion}
use Rattle.cue_replica.specs.declared.question.SiteQuestion.TheVariants as questions
use Rattle.cue_replica.specs.declared.question.Status.{Status}
use Rattle.cue_replica.specs.declared.question.Status.TheVariants as statuses
use Rattle.cue_journal.specs.Cursors.{cursor_text}
use Rattle.cue_journal.specs.Listed.{Listed, next_of}
use Rattle.cue_service.specs.Tags.{tag_of}

-- the status of an answer about the table: an export that is none has its own
abbrev pub status_of_answer : SiteQuestion → Status → ℕ
status_of_answer questions.Export statuses.Conflicts = 409
status_of_answer questions.Export statuses.Incomplete = 422
status_of_answer question status = 200

-- the status of a piece that is refused
abbrev pub status_of_refusal : Kind → ℕ
status_of_refusal kinds.TooLong = 413
status_of_refusal kinds.Memory = 507
status_of_refusal kind = 422

-- the content types
abbrev pub plain_text : List ℕ
plain_text = codes "text/plain; charset=utf-8"

abbrev pub plain_bytes : List ℕ
plain_bytes = codes "application/octet-stream"

-- that of an answer about the table: JSON is what an export is, and no other answer
abbrev pub type_of_answer : SiteQuestion → Status → List ℕ
type_of_answer questions.Export statuses.Done = codes "application/json"
type_of_answer questions.State status = plain_bytes
type_of_answer question status = plain_text

-- the fields
abbrev pub type_field : List ℕ → Header
type_field kind = (codes "content-type", kind)

abbrev pub tag_field : Table → Header
tag_field table = (codes "etag", tag_of table)

-- the place behind all pieces that were accepted
abbrev pub place_field : Listed → Header
place_field pieces = (codes "cuestore-pieces", cursor_text pieces.run (next_of pieces))

-- only an answer with the state names it
abbrev pub place_fields : SiteQuestion → Listed → List Header
place_fields questions.State pieces = place_field pieces ∷ []
place_fields question pieces = []

-- what a request has to carry that was not let in
abbrev pub token_field : Header
token_field = (codes "www-authenticate", codes "Bearer")

-- the methods that a site knows
abbrev pub methods_field : Header
methods_field = (codes "allow", codes "GET, HEAD, POST")

-- which codings of a body it knows
abbrev pub codings_field : Header
codings_field = (codes "accept-encoding", codes "identity")

-- the response has this status, and just these fields
abbrev pub HasHead : ℕ → List Header → Response → Type 0
HasHead code fields response = (response.status ≡ code) × (fields_of response ≡ fields)
