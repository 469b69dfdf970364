-- Beside `specs/Strings.antt`: what private clauses and proofs alone cite.
use Rattle.std.specs.Prelude.{ℕ, Bool}
use Rattle.std.specs.Prelude.{◌==◌, ◌&&◌, not}

-- a byte that stands for itself in a string: no quote, backslash or line break
abbrev pub is_plain : ℕ → Bool
is_plain b = (not (b == 34) && not (b == 92)) && not (b == 10)
