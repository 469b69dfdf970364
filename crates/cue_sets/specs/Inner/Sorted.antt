-- Pieces in any order.
use Rattle.std.specs.Prelude.{ℤ, ◌≤ℤ◌}
use Rattle.cue_sets.specs.Pieces.{least, greatest}

-- the piece is not empty, and its numbers have 64 bits
pub record IsPiece (piece : ℤ × ℤ) : Type 0 where
  pub low : least ≤ℤ piece.0
  pub some : piece.0 ≤ℤ piece.1
  pub high : piece.1 ≤ℤ greatest
