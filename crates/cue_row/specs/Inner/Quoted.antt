-- Beside `specs/Quoted.antt`: what private clauses and proofs alone cite.
use Rattle.std.specs.Prelude.{ℕ, Bool, not, ◌&&◌, ◌==◌, nat_lt}
use Rattle.cue_row.specs.Quoted.{quotation_mark, backslash}

-- a character of ASCII that stands for itself between quotation marks
abbrev pub is_plain_byte : ℕ → Bool
is_plain_byte b = not (nat_lt b 0x20) && nat_lt b 0x7f && not (b == quotation_mark) && not (b == backslash)
