-- Beside `specs/Integers.antt`: what private clauses and proofs alone cite.
use Rattle.std.specs.Prelude.{ℕ, Option, Some, None}
use Rattle.std.specs.Prelude.{nat_lt}
use Rattle.std.specs.Prelude.{if◌then◌else◌}
use Rattle.std.specs.Char.{digit_value}

-- what a digit of a base stands for, letters in either case
abbrev pub digit : ℕ → ℕ → Option ℕ
digit base b = if nat_lt (digit_value b) base then Some (digit_value b) else None
