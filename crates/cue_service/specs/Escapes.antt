-- How a page shows a text.
use Rattle.std.specs.Prelude.{◌==◌, ◌++◌, ◌∷◌, [], ℕ, List, Bool, ◌&&◌, ◌||◌, false, codes, if◌then◌else◌, nat_le}
use Rattle.std.specs.List.{flat_map}
use Rattle.std.specs.Str.{chars}
use Rattle.std.specs.Fmt.{digits}
use lib.Utf8.{encode}

-- a character that says how others are shown, or that is not seen
abbrev pub is_hidden : ℕ → Bool
is_hidden c =
    nat_le c 31 || (nat_le 127 c && nat_le c 159) || (nat_le 8234 c && nat_le c 8238) || (nat_le 8294 c && nat_le c 8297)

-- a character as a page shows it: those of HTML by their names, and those that are hidden by their numbers,
-- in hexadecimal digits, except for the line break
abbrev pub escaped_char : ℕ → List ℕ
escaped_char c =
    if c == 60 then codes "&lt;" else
    if c == 62 then codes "&gt;" else
    if c == 38 then codes "&amp;" else
    if c == 34 then codes "&quot;" else
    if c == 39 then codes "&#39;" else
    if c == 10 then 10 ∷ [] else
    if is_hidden c then codes "\\u{" ++ digits 16 false c ++ codes "}" else
    encode c

-- each character of a text
abbrev pub escaped : List ℕ → List ℕ
escaped text = flat_map escaped_char (chars text)
