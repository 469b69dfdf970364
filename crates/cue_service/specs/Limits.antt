-- A bound on answers.
use Rattle.std.specs.Prelude.{◌<◌, ℕ, List, length}
use Rattle.cue_lattice.specs.World.{Piece, piece_refuses}
use Rattle.cue_replica.specs.Answers.{IsAnswer}
use Rattle.cue_replica.specs.Language.{Table, language}
use Rattle.cue_replica.specs.Replica.{AddsRefusals}
use Rattle.cue_replica.specs.declared.question.SiteQuestion.{SiteQuestion}
use Rattle.cue_replica.specs.declared.question.Status.{Status}

-- each answer to the question about the table has more bytes than the limit
abbrev pub IsOverLimit : ℕ → SiteQuestion → Table → Type 0
IsOverLimit limit question table =
    (bytes : List ℕ) (status : Status) → IsAnswer question table bytes status → limit < length bytes

-- with the piece the table would have such an answer
pub record CostsTooMuch (limit : ℕ) (table : Table) (piece : Piece) : Type 0 where
  pub unified : Table
  pub adds : AddsRefusals table (piece_refuses language piece) unified
  pub question : SiteQuestion
  pub over : IsOverLimit limit question unified
