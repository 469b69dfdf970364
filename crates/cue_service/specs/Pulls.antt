-- What a pull that went well brings: all that the pieces of the other site say.
use Rattle.std.specs.Prelude.{List}
use Rattle.cue_lattice.specs.Path.{Path}
use Rattle.cue_lattice.specs.Question.{Question}
use Rattle.cue_lattice.specs.World.{Piece, IsInSet, IsUnified, piece_refuses}
use Rattle.cue_replica.specs.Accepted.{IsAcceptable}
use Rattle.cue_replica.specs.Language.{Table, language}
use Rattle.cue_service.specs.declared.desk.SiteCore.{SiteCore}
use Rattle.cue_service.specs.Listing.{AreListed}

-- the table refuses all that the piece does
abbrev pub CoversPiece : Table → Piece → Type 0
CoversPiece table piece =
    (path : Path) (question : Question) → piece_refuses language piece path question
    → language.table_refuses table path question

-- so it does with each of these pieces that a site accepts
abbrev pub CoversAll : Table → List Piece → Type 0
CoversAll table pieces = (piece : Piece) → IsInSet pieces piece → IsAcceptable piece → CoversPiece table piece

-- The table is what some pieces make it, and among them are those that were accepted since the start,
-- which are listed.
pub record IsOfListed (desk : SiteCore) : Type 0 where
  pub pieces : List Piece
  pub accepted : List Piece
  pub held : IsUnified language desk.board pieces
  pub among : (piece : Piece) → IsInSet accepted piece → IsInSet pieces piece
  pub listed : AreListed accepted desk.pieces
