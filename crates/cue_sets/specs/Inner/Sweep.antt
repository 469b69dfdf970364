-- A sweep over the numbers from the least integer upwards, which makes a list of pieces.
use Rattle.std.specs.Prelude.{Bool, true, false, List, [], ◌∷◌, ℤ, pos, ◌-ℤ◌, ◌≤ℤ◌, Option, Some}
use Rattle.std.specs.Prelude.{None, unwrap_or}

-- the first piece ends at `from` or later
abbrev pub EndsFrom : ℤ → List (ℤ × ℤ) → Type 0
EndsFrom from [] = Unit {0}
EndsFrom from (piece ∷ pieces) = from ≤ℤ piece.1

-- where the piece begins that is being made, after the numbers from `from` on were kept or left out
abbrev pub open_piece : Option ℤ → ℤ → Bool → Option ℤ
open_piece begun from false = None
open_piece begun from true = Some (unwrap_or begun from)

-- the piece that ends right before `from`, if the numbers from there on are left out
abbrev pub close_piece : Option ℤ → ℤ → Bool → List (ℤ × ℤ)
close_piece begun from true = []
close_piece None from false = []
close_piece (Some first) from false = (first, from -ℤ pos 1) ∷ []
