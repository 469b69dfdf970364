-- The pieces that a site accepted since its start, and what it answers to those who ask for them.
use Rattle.std.specs.Prelude.{◌≡◌, ◌⊎◌, ◌<◌, ◌≤◌, ◌^◌, ℕ, List, [], ◌∷◌, ◌++◌, length, drop, map}
use Rattle.cue_lattice.specs.World.{Piece}
use Rattle.http.specs.declared.request.Request.{Request}
use Rattle.http_server.specs.declared.response.Response.{Response}
use Rattle.http_server.specs.Response.{IsResponse}
use Rattle.cue_journal.specs.Blocks.{recovered_pieces}
use Rattle.cue_journal.specs.Cursors.{cursor_text, IsCursor}
use Rattle.cue_journal.specs.Listed.{Listed, IsListOfPieces, KeepsPieces}
use Rattle.cue_journal.specs.Lists.{blocks}
use Rattle.cue_service.specs.Entries.{entry_of}
use Rattle.cue_service.specs.Requests.{AsksBehind}
use Rattle.cue_service.specs.Statuses.{HasHead, type_field, place_field, plain_bytes}

-- the pieces that were accepted since the start are just these, of which the kept ones are a suffix
abbrev pub AreListed : List Piece → Listed → Type 0
AreListed pieces listed = IsListOfPieces (map entry_of pieces) listed

-- one more
abbrev pub with_entry : Listed → List ℕ → Listed
with_entry pieces entry =
    record { run = pieces.run; given_up = pieces.given_up; kept = pieces.kept ++ entry ∷ [] }

-- The answer is the blocks of all pieces behind the first so many, in order, all of which are kept; and
-- these are what is read of it.
pub record AnswersPieces (pieces : Listed) (request : Request (List ℕ)) (response : Response) : Type 0 where
  pub text : List ℕ
  pub count : ℕ
  pub asks : AsksBehind text request
  pub cursor : IsCursor text pieces.run count
  pub kept : KeepsPieces pieces pieces.run count
  pub head : HasHead 200 (type_field plain_bytes ∷ place_field pieces ∷ []) response
  pub told : (accepted : List Piece) → AreListed accepted pieces → (count ≤ length accepted)
      × (response.body.items ≡ blocks (map entry_of (drop count accepted)))
      × (recovered_pieces response.body.items ≡ map entry_of (drop count accepted))

-- not all of those behind the place are kept, or it is of another run
pub record IsGone (pieces : Listed) (request : Request (List ℕ)) (response : Response) : Type 0 where
  pub text : List ℕ
  pub run : ℕ
  pub count : ℕ
  pub asks : AsksBehind text request
  pub cursor : IsCursor text run count
  pub not_kept : ¬ KeepsPieces pieces run count
  pub answer : IsResponse 410 [] [] response

-- the request names no place that a site ever names
pub record IsNoCursor (request : Request (List ℕ)) (response : Response) : Type 0 where
  pub none : (run count : ℕ) → run < 2 ^ 64 → count < 2 ^ 64 → ¬ AsksBehind (cursor_text run count) request
  pub answer : IsResponse 400 [] [] response

abbrev pub AnswersWithPieces : Listed → Request (List ℕ) → Response → Type 0
AnswersWithPieces pieces request response =
    AnswersPieces pieces request response ⊎ (IsGone pieces request response ⊎ IsNoCursor request response)
