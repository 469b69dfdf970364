-- Integer literals.
use Rattle.std.specs.Prelude.{ℕ, Bool, true, false, List, [], ◌∷◌, Option, Some, None, ◌+◌, ◌*◌}
use Rattle.std.specs.Prelude.{◌==◌, ◌&&◌, ◌||◌, codes, drop, fold, nat_eq, nat_lt, nat_le}
use Rattle.std.specs.Prelude.{slice_index, if◌then◌else◌}
use Rattle.std.specs.List.{starts_with}
use Rattle.std.specs.Char.{digit_value, is_ascii_alphanumeric}

-- an ASCII letter, an ASCII digit, _ or .
abbrev pub is_literal_byte : ℕ → Bool
is_literal_byte b = is_ascii_alphanumeric b || ((b == 95) || (b == 46))

-- the digits of a base, with single _ between them; after_digit says that a digit stands before the
-- bytes
abbrev pub are_digits : ℕ → Bool → List ℕ → Bool
are_digits base after_digit [] = after_digit
are_digits base after_digit (b ∷ bytes) =
    if b == 95 then after_digit && are_digits base false bytes
    else nat_lt (digit_value b) base && are_digits base true bytes

-- the number with one more digit, or with a _
abbrev pub with_digit : ℕ → ℕ → ℕ → ℕ
with_digit base n b = if b == 95 then n else n * base + digit_value b

-- the number that digits of a base spell
unfoldable pub digits_number : ℕ → List ℕ → Option ℕ
digits_number base bytes =
    if are_digits base false bytes then Some (fold (with_digit base) 0 bytes) else None

-- 0 alone
abbrev pub is_zero : List ℕ → Bool
is_zero (b ∷ []) = b == 48
is_zero _ = false

-- the number that a literal spells, if it spells one
unfoldable pub literal_number : List ℕ → Option ℕ
literal_number bytes =
    if starts_with nat_eq bytes (codes "0x") || starts_with nat_eq bytes (codes "0X")
    then digits_number 16 (drop 2 bytes)
    else (if starts_with nat_eq bytes (codes "0o") then digits_number 8 (drop 2 bytes)
    else (if starts_with nat_eq bytes (codes "0b") then digits_number 2 (drop 2 bytes)
    else (if nat_le 49 (slice_index bytes 0) && nat_le (slice_index bytes 0) 57
    then digits_number 10 bytes
    else (if is_zero bytes then Some 0 else None))))
