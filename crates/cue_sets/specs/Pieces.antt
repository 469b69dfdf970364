-- A set of integers as pieces. A piece is its first and its last number.
use Rattle.std.specs.Prelude.{◌≡◌, Bool, true, false, ◌&&◌, ◌||◌, List, [], ◌∷◌, ℤ, pos}
use Rattle.std.specs.Prelude.{◌+ℤ◌, ◌≤ℤ◌, int_le}
pub use Rattle.cue_lattice.specs.Scalar.{least, greatest}
use Rattle.cue_lattice.specs.Scalar.{IsInteger}

-- whether the piece has n
abbrev pub is_within : ℤ × ℤ → ℤ → Bool
is_within piece n = int_le piece.0 n && int_le n piece.1

-- whether some piece has n
abbrev pub is_member : List (ℤ × ℤ) → ℤ → Bool
is_member [] n = false
is_member (piece ∷ pieces) n = is_within piece n || is_member pieces n

-- The pieces begin at `start_sets` or later, ascend, and stay at or below the greatest integer. None is
-- empty, and between two neighbours at least one number is left out.
abbrev pub AscendsFrom : ℤ → List (ℤ × ℤ) → Type 0
AscendsFrom start [] = Unit {0}
AscendsFrom start (piece ∷ pieces) =
    (start ≤ℤ piece.0) × (piece.0 ≤ℤ piece.1) × (piece.1 ≤ℤ greatest)
    × AscendsFrom (piece.1 +ℤ pos 2) pieces

-- the one form in which a set of integers of 64 bits is kept
abbrev pub IsCanonical : List (ℤ × ℤ) → Type 0
IsCanonical pieces = AscendsFrom least pieces

-- whether n is an integer of 64 bits
abbrev pub is_int64 : ℤ → Bool
is_int64 n = is_within (least, greatest) n

-- A set of integers refuses the integers of 64 bits that are no members. It refuses no other
-- number.
abbrev pub RefusesInteger : List (ℤ × ℤ) → ℤ → Type 0
RefusesInteger pieces n = IsInteger n × (is_member pieces n ≡ false)

-- n is in the set, and no other number is
pub record IsOnlyMember (pieces : List (ℤ × ℤ)) (n : ℤ) : Type 0 where
  pub member : is_member pieces n ≡ true
  pub only : (m : ℤ) → is_member pieces m ≡ true → m ≡ n

-- n is in the set, and no member is below it
pub record IsFirstMember (pieces : List (ℤ × ℤ)) (n : ℤ) : Type 0 where
  pub member : is_member pieces n ≡ true
  pub first : (m : ℤ) → is_member pieces m ≡ true → n ≤ℤ m
