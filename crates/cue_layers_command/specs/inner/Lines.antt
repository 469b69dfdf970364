-- How long the parts of a line are at most, and the status of lines.
use Rattle.std.specs.Prelude.{◌≡◌, ◌++◌, ℕ, List, codes, Bool, true, false}

-- the digits of a number of 64 bits
abbrev pub digit_limit : ℕ
digit_limit = 20

-- the number and the name of each refusal
abbrev pub reason_limit : ℕ
reason_limit = 48

-- the same with a place
abbrev pub placed_limit : ℕ
placed_limit = 72

-- a whole line
abbrev pub line_limit : ℕ
line_limit = 128

-- the exit status of a report, by whether it has lines of conflicts and whether it has lines of gaps
abbrev pub lines_code : Bool → Bool → ℕ
lines_code true lacking = 2
lines_code false true = 3
lines_code false false = 0

-- the text ends with a line break
abbrev pub IsLine : List ℕ → Type 0
IsLine text = (front : List ℕ) × (text ≡ front ++ codes "\n")
