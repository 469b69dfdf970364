-- What pieces leave out.
use Rattle.std.specs.Prelude.{Bool, not, ◌&&◌, List, ℤ}
use Rattle.cue_sets.specs.Pieces.{is_member, is_int64}

-- whether n is one of the integers of 64 bits that the pieces leave out
abbrev pub pieces_lack : List (ℤ × ℤ) → ℤ → Bool
pieces_lack pieces n = is_int64 n && not (is_member pieces n)
