-- What a site answers to a request, and what that does to it.
use Rattle.std.specs.List.{Contains}
use Rattle.cue_journal.specs.Listed.{GivesUp}
use Rattle.std.specs.Prelude.{◌≡◌, ◌⊎◌, ◌<◌, ◌≤◌, ◌^◌, ℕ, List, [], ◌∷◌, ◌++◌, length, codes}
use Rattle.cue_lattice.specs.World.{Piece, state, piece_refuses}
use Rattle.cue_replica.specs.Accepted.{IsAcceptable}
use Rattle.cue_replica.specs.Language.{Table, language}
use Rattle.cue_replica.specs.Replica.{AddsRefusals}
use Rattle.cue_replica.specs.Answers.{IsWholeAnswer}
use Rattle.cue_replica.specs.declared.question.SiteQuestion.{SiteQuestion}
use Rattle.cue_replica.specs.declared.answers.Answer.{Answer}
use Rattle.http.specs.declared.request.Request.{Request}
use Rattle.http.specs.Request.{body_of}
use Rattle.http1.specs.Fields.{Header}
use Rattle.http_server.specs.declared.response.Response.{Response}
use Rattle.http_server.specs.Response.{IsResponse}
use Rattle.cue_lattice.specs.declared.refusal.Refusal.{Refusal}
use Rattle.cue_journal.specs.Blocks.{recovered_pieces}
use Rattle.cue_journal.specs.Settled.{IsBatch}
use Rattle.cue_journal.specs.Batches.{batch_bytes}
use Rattle.cue_service.specs.declared.desk.SiteCore.{SiteCore}
use Rattle.cue_service.specs.declared.route.PieceKind.{PieceKind}
use Rattle.cue_service.specs.declared.route.Route.{Route}
use Rattle.cue_service.specs.declared.route.Route.TheVariants.{Ask, Pieces, Take, Health, Metrics, Page, OtherMethod, Unknown}
use Rattle.cue_service.specs.Entries.{entry_of}
use Rattle.cue_service.specs.Access.{MayWrite}
use Rattle.cue_service.specs.Conditions.{HasTag}
use Rattle.cue_service.specs.Limits.{CostsTooMuch, IsOverLimit}
use Rattle.cue_service.specs.Listing.{AreListed, AnswersWithPieces}
use Rattle.cue_service.specs.Pages.{IsPage}
use Rattle.cue_service.specs.Refusals.{IsLeftOut, bytes_in}
use Rattle.cue_service.specs.Requests.{IsRoute, HasEncodedBody, piece_of_bytes}
use Rattle.cue_service.specs.Statuses.{HasHead, status_of_answer, status_of_refusal, type_of_answer, type_field, tag_field, token_field, methods_field, codings_field, place_fields, plain_text}
use Rattle.cue_service.specs.Tags.{tag_of}

-- state bytes are accepted by a table
pub record BringsState (bytes : List ℕ) (old new : Table) : Type 0 where
  pub is_state : language.IsState bytes
  pub adds : AddsRefusals old (language.state_refuses bytes) new
  pub valid : language.IsValid new

-- nothing changes but counts
pub record IsSame (old new : SiteCore) : Type 0 where
  pub rules : new.rules ≡ old.rules
  pub table : new.board ≡ old.board
  pub waits : batch_bytes new.batch ≡ batch_bytes old.batch
  pub pieces : new.pieces ≡ old.pieces

-- the table takes in a piece, which waits behind the others, and is the last that was accepted
pub record IsPieceTaken (piece : Piece) (old new : SiteCore) : Type 0 where
  pub rules : new.rules ≡ old.rules
  pub acceptable : IsAcceptable piece
  pub fits : length (bytes_in piece) < 2 ^ 64
  pub adds : AddsRefusals old.board (piece_refuses language piece) new.board
  pub valid : language.IsValid new.board
  pub waits : IsBatch (batch_bytes old.batch) → IsBatch (batch_bytes new.batch)
      × (recovered_pieces (batch_bytes new.batch) ≡ recovered_pieces (batch_bytes old.batch) ++ entry_of piece ∷ [])
  pub same_run : new.pieces.run ≡ old.pieces.run
  pub listed : (accepted : List Piece) → AreListed accepted old.pieces
      → AreListed (accepted ++ piece ∷ []) new.pieces

-- The piece is known: it is among those that are kept, and the table says it already. Nothing changes but
-- counts.
pub record IsTagKnown (piece : Piece) (old new : SiteCore) : Type 0 where
  pub acceptable : IsAcceptable piece
  pub fits : length (bytes_in piece) < 2 ^ 64
  pub adds : AddsRefusals old.board (piece_refuses language piece) new.board
  pub valid : language.IsValid new.board
  pub kept : Contains old.pieces.kept (entry_of piece)
  pub same : IsSame old new

-- nothing changes but counts, and that older pieces may be given up, to free memory
pub record IsSpared (old new : SiteCore) : Type 0 where
  pub rules : new.rules ≡ old.rules
  pub table : new.board ≡ old.board
  pub waits : batch_bytes new.batch ≡ batch_bytes old.batch
  pub pieces : GivesUp old.pieces new.pieces

-- a question of one who has the tag of the table: nothing is new
pub record IsUnchanged (table : Table) (request : Request (List ℕ)) (more : List Header) (response : Response) : Type 0 where
  pub known : HasTag (tag_of table) request
  pub answer : IsResponse 304 (tag_field table ∷ more) [] response

-- a question of any other: it is answered of the table, with no more bytes than the limit
pub record IsAnswered (limit : ℕ) (question : SiteQuestion) (table : Table) (request : Request (List ℕ)) (more : List Header) (response : Response) : Type 0 where
  pub unknown : ¬ HasTag (tag_of table) request
  pub told : Answer
  pub whole : IsWholeAnswer question table told
  pub within : length told.bytes.items ≤ limit
  pub answer : IsResponse (status_of_answer question told.status)
      (tag_field table ∷ type_field (type_of_answer question told.status) ∷ more) told.bytes.items response

-- or it would be answered with more
pub record IsNotGiven (limit : ℕ) (question : SiteQuestion) (table : Table) (request : Request (List ℕ)) (more : List Header) (response : Response) : Type 0 where
  pub unknown : ¬ HasTag (tag_of table) request
  pub over : IsOverLimit limit question table
  pub answer : HasHead 507 (tag_field table ∷ type_field plain_text ∷ more) response

-- the answer to a question has the tag of the table, and then these fields more
abbrev pub IsAsked : ℕ → SiteQuestion → Table → Request (List ℕ) → List Header → Response → Type 0
IsAsked limit question table request more response =
    IsUnchanged table request more response
    ⊎ (IsAnswered limit question table request more response ⊎ IsNotGiven limit question table request more response)

-- One who may not write hands something in: nothing changes.
pub record IsUnauthorized (old : SiteCore) (request : Request (List ℕ)) (response : Response) (new : SiteCore) : Type 0 where
  pub barred : ¬ MayWrite old.rules.token request
  pub same : IsSame old new
  pub answer : IsResponse 401 (token_field ∷ []) [] response

-- One who may write hands in a body that is encoded: nothing changes.
pub record IsNotDecoded (old : SiteCore) (request : Request (List ℕ)) (response : Response) (new : SiteCore) : Type 0 where
  pub lets : MayWrite old.rules.token request
  pub encoded : HasEncodedBody request
  pub same : IsSame old new
  pub answer : IsResponse 415 (codings_field ∷ []) [] response

-- A piece is accepted, or known.
pub record IsAcknowledged (piece : Piece) (old : SiteCore) (request : Request (List ℕ)) (response : Response) (new : SiteCore) : Type 0 where
  pub lets : MayWrite old.rules.token request
  pub plain : ¬ HasEncodedBody request
  pub done : IsPieceTaken piece old new ⊎ IsTagKnown piece old new
  pub answer : IsResponse 204 [] [] response

-- A piece is refused: nothing changes but that older pieces may be given up.
pub record IsTurnedDown (piece : Piece) (old : SiteCore) (request : Request (List ℕ)) (response : Response) (new : SiteCore) : Type 0 where
  pub lets : MayWrite old.rules.token request
  pub plain : ¬ HasEncodedBody request
  pub same : IsSpared old new
  pub why : Refusal
  pub refused : IsLeftOut piece why
  pub answer : HasHead (status_of_refusal why.kind) (type_field plain_text ∷ []) response

-- With the piece an answer would have more bytes than the limit: so it is refused.
pub record IsTooCostly (piece : Piece) (old : SiteCore) (request : Request (List ℕ)) (response : Response) (new : SiteCore) : Type 0 where
  pub lets : MayWrite old.rules.token request
  pub plain : ¬ HasEncodedBody request
  pub same : IsSpared old new
  pub costs : CostsTooMuch old.rules.limit old.board piece
  pub answer : HasHead 413 (type_field plain_text ∷ []) response

-- The disk has no room for a piece of one who may write: nothing changes.
pub record IsWithoutRoom (old : SiteCore) (request : Request (List ℕ)) (response : Response) (new : SiteCore) : Type 0 where
  pub lets : MayWrite old.rules.token request
  pub plain : ¬ HasEncodedBody request
  pub same : IsSame old new
  pub answer : HasHead 507 (type_field plain_text ∷ []) response

-- something is handed in
abbrev pub IsHandedToSite : PieceKind → SiteCore → Request (List ℕ) → Response → SiteCore → Type 0
IsHandedToSite hand old request response new =
    let piece = piece_of_bytes hand (body_of request) in
    (IsUnauthorized old request response new ⊎ IsNotDecoded old request response new)
    ⊎ (IsAcknowledged piece old request response new
    ⊎ (IsTurnedDown piece old request response new
    ⊎ (IsWithoutRoom old request response new ⊎ IsTooCostly piece old request response new)))

-- Which status, which fields and which body come for which request.
abbrev pub AnswersAs : Route → SiteCore → Request (List ℕ) → Response → SiteCore → Type 0
AnswersAs (Ask question) old request response new =
    IsSame old new × IsAsked old.rules.limit question old.board request (place_fields question old.pieces) response
AnswersAs Pieces old request response new = IsSame old new × AnswersWithPieces old.pieces request response
AnswersAs (Take hand) old request response new = IsHandedToSite hand old request response new
AnswersAs Health old request response new =
    IsSame old new × IsResponse 200 (type_field plain_text ∷ []) (codes "up\n") response
AnswersAs Metrics old request response new =
    IsSame old new × HasHead 200 (type_field (codes "text/plain; version=0.0.4") ∷ []) response
AnswersAs Page old request response new =
    IsSame old new × HasHead 200 (type_field (codes "text/html; charset=utf-8") ∷ []) response
    × IsPage response.body.items
AnswersAs OtherMethod old request response new = IsSame old new × IsResponse 405 (methods_field ∷ []) [] response
AnswersAs Unknown old request response new = IsSame old new × IsResponse 404 [] [] response

-- for a piece that is sent older pieces may be given up, and for no other request
abbrev pub LeavesUnanswered : Route → SiteCore → SiteCore → Type 0
LeavesUnanswered (Take hand) old new = IsSpared old new
LeavesUnanswered route old new = IsSame old new

-- A request is answered by what it asks for. Or memory ran out, and nothing changes but that.
abbrev pub AnswersRequest : SiteCore → Request (List ℕ) → Response → SiteCore → Type 0
AnswersRequest old request response new =
    (route : Route) × IsRoute route request
    × (AnswersAs route old request response new ⊎ (LeavesUnanswered route old new × IsResponse 507 [] [] response))

-- a piece of another site is taken, or nothing changes
abbrev pub GathersPiece : Piece → SiteCore → SiteCore → Type 0
GathersPiece piece old new = IsPieceTaken piece old new ⊎ IsSame old new

-- so is its state
abbrev pub GathersState : List ℕ → SiteCore → SiteCore → Type 0
GathersState bytes old new = GathersPiece (state bytes) old new

-- so are pieces of it, one after the other
abbrev pub GathersPieces : List Piece → SiteCore → SiteCore → Type 0
GathersPieces [] old new = IsSame old new
GathersPieces (piece ∷ pieces) old new =
    (next : SiteCore) × GathersPiece piece old next × GathersPieces pieces next new
