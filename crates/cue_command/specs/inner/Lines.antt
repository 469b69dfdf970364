-- How long the parts of a line are at most.
use Rattle.std.specs.Prelude.{ℕ}

-- the digits of a number of 64 bits
abbrev pub digit_limit : ℕ
digit_limit = 20

-- what is told of each refusal
abbrev pub kind_limit : ℕ
kind_limit = 48

-- a whole line
abbrev pub line_limit : ℕ
line_limit = 128
