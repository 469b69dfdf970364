-- How large a state is, as far as 64 bits tell.
use Rattle.std.specs.Prelude.{ℕ, ◌-◌, ◌^◌, List, length, min}

-- a number, or the greatest of 64 bits where it is more
abbrev pub at_most_64_bits : ℕ → ℕ
at_most_64_bits n = min n (2 ^ 64 - 1)

-- how many bytes these are
abbrev pub size_of : List ℕ → ℕ
size_of bytes = at_most_64_bits (length bytes)
