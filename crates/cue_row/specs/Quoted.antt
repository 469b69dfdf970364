-- A text between quotation marks, as a string literal of the CUE Language Specification.
use Rattle.std.specs.Prelude.{ℕ, ◌/◌, ◌%◌, List, [], ◌∷◌, ◌++◌, ◌||◌, ◌==◌, nat_lt, if◌then◌else◌}
use Rattle.std.specs.Prelude.{codes, encode_utf8}
use Rattle.std.specs.Char.{digit_char}
use Rattle.std.specs.List.{flat_map}
use Rattle.std.specs.Str.{chars}

abbrev pub quotation_mark : ℕ
quotation_mark = 0x22

abbrev pub backslash : ℕ
backslash = 0x5c

-- a backslash and a letter
abbrev pub escape_text : List ℕ → List ℕ
escape_text letter = backslash ∷ letter

-- `\u` and the four lower-case hexadecimal digits of a character below 256
abbrev pub unicode_escape : ℕ → List ℕ
unicode_escape c = escape_text (codes "u00") ++ digit_char (c / 16) ∷ digit_char (c % 16) ∷ []

-- A character between quotation marks. The mark, the backslash, U+000A, U+000D and U+0009 have
-- escapes of their own; other characters below U+0020 and U+007F are written by their number, and
-- all else stands for itself.
abbrev pub char_text : ℕ → List ℕ
char_text c =
    if c == quotation_mark then escape_text (quotation_mark ∷ []) else
    (if c == backslash then escape_text (backslash ∷ []) else
    (if c == 0x0a then escape_text (codes "n") else
    (if c == 0x0d then escape_text (codes "r") else
    (if c == 0x09 then escape_text (codes "t") else
    (if nat_lt c 0x20 || c == 0x7f then unicode_escape c else encode_utf8 c)))))

-- the characters of a text between quotation marks
abbrev pub quote_text : List ℕ → List ℕ
quote_text text = quotation_mark ∷ flat_map char_text (chars text) ++ quotation_mark ∷ []
