-- Strings and their escapes.
use Rattle.std.specs.Prelude.{ℕ, zero, suc, Bool, List, [], ◌∷◌, ◌++◌, Option, Some, None, Result}
use Rattle.std.specs.Prelude.{Ok, Err, ◌+◌, ◌-◌, ◌*◌, ◌==◌, ◌&&◌, ◌||◌, codes, drop}
use Rattle.std.specs.Prelude.{encode_utf8, option_and_then, nat_eq, nat_lt, nat_le, if◌then◌else◌}
use Rattle.std.specs.List.{starts_with}
use Rattle.std.specs.Option.{option_map}
use Rattle.std.specs.Char.{digit_value}
use Rattle.cue_lattice.specs.declared.refusal.Kind.TheVariants as refusals
use Rattle.cue_lattice.specs.declared.refusal.Refusal.{Refusal}
use Rattle.cue_lattice.specs.Refusal.{refusal_at}

infixl 10 ◌>>=◌
abbrev ◌>>=◌ : {A B : Type 0} → Option A → (A → Option B) → Option B
o >>= f = option_and_then f o

-- what a hexadecimal digit stands for, letters in either case
abbrev pub hexadecimal : ℕ → Option ℕ
hexadecimal b = if nat_lt (digit_value b) 16 then Some (digit_value b) else None

-- the number that four hexadecimal digits at the front spell
unfoldable pub four_digits : List ℕ → Option ℕ
four_digits (a ∷ b ∷ c ∷ d ∷ bytes) = do
  a ← hexadecimal a
  b ← hexadecimal b
  c ← hexadecimal c
  d ← hexadecimal d
  Some (a * 0x1000 + b * 0x100 + c * 0x10 + d)
four_digits _ = None

-- the number that eight hexadecimal digits at the front spell
unfoldable pub eight_digits : List ℕ → Option ℕ
eight_digits bytes = do
  high ← four_digits bytes
  low ← four_digits (drop 4 bytes)
  Some (high * 0x1_0000 + low)

abbrev pub is_between : ℕ → ℕ → ℕ → Bool
is_between low high n = nat_le low n && nat_le n high

-- the character with this number, where there is one: surrogates are none
abbrev pub character : ℕ → Option ℕ
character n = if is_between 0xD800 0xDFFF n || nat_lt 0x10_FFFF n then None else Some n

-- what a letter after a backslash stands for
unfoldable pub simple_escape : ℕ → Option ℕ
simple_escape b =
    if b == 97 then Some 0x07
    else (if b == 98 then Some 0x08
    else (if b == 102 then Some 0x0C
    else (if b == 110 then Some 0x0A
    else (if b == 114 then Some 0x0D
    else (if b == 116 then Some 0x09
    else (if b == 118 then Some 0x0B
    else (if b == 47 then Some 47
    else (if b == 92 then Some 92
    else (if b == 34 then Some 34
    else None)))))))))

-- the character of a high surrogate and a low one, and how many bytes stand for both after the
-- first backslash
abbrev pub character_of_pair : ℕ → ℕ → Option (ℕ × ℕ)
character_of_pair high low =
    if is_between 0xDC00 0xDFFF low
    then Some ((high - 0xD800) * 0x400 + (low - 0xDC00) + 0x1_0000, 11)
    else None

-- the character of a high surrogate and the low one whose escape is at the front
abbrev pub pair : ℕ → List ℕ → Option (ℕ × ℕ)
pair high bytes =
    if starts_with nat_eq bytes (codes "\\u")
    then option_and_then (character_of_pair high) (four_digits (drop 2 bytes))
    else None

-- The character of a \u whose digits are at the front, and how many bytes stand after its
-- backslash. A high surrogate needs a low one at once after it, and the two are one character.
unfoldable pub short_escape : List ℕ → Option (ℕ × ℕ)
short_escape bytes = do
  unit ← four_digits bytes
  if is_between 0xD800 0xDBFF unit
      then pair unit (drop 4 bytes)
      else option_map (λ c. (c, 5)) (character unit)

-- the character of an escape whose backslash stands before the bytes, and how many bytes stand
-- after the backslash
unfoldable pub escape_sequence : List ℕ → Option (ℕ × ℕ)
escape_sequence [] = None
escape_sequence (b ∷ bytes) =
    if b == 117 then short_escape bytes
    else (if b == 85 then option_map (λ c. (c, 9)) (option_and_then character (eight_digits bytes))
    else option_map (λ c. (c, 1)) (simple_escape b))

abbrev pub bad_string : ℕ → Refusal
bad_string place = refusal_at refusals.BadString place

-- more text in front of a string's
abbrev pub with_front : List ℕ → Result (List ℕ × ℕ) Refusal → Result (List ℕ × ℕ) Refusal
with_front front (Ok (text, end)) = Ok (front ++ text, end)
with_front front (Err refusal) = Err refusal

-- what an escape gives: a bad one is a fault at its backslash, a good one is its character in front
-- of the rest
abbrev pub with_escape : ℕ → Option (ℕ × ℕ) → (ℕ → Result (List ℕ × ℕ) Refusal)
    → Result (List ℕ × ℕ) Refusal
with_escape backslash None rest = Err (bad_string backslash)
with_escape backslash (Some (c, width)) rest = with_front (encode_utf8 c) (rest width)

-- What the inside of a string stands for, and where its closing quote ends, or the first fault. The
-- string starts at start, the bytes stand at place, and the first of them, as many as inside says,
-- still belong to an escape.
abbrev pub body : ℕ → ℕ → ℕ → List ℕ → Result (List ℕ × ℕ) Refusal
body start inside place [] = Err (bad_string start)
body start (suc inside) place (b ∷ bytes) = body start inside (place + 1) bytes
body start zero place (b ∷ bytes) =
    if b == 34 then Ok ([], place + 1)
    else (if b == 10 then Err (bad_string start)
    else (if b == 92
    then with_escape place (escape_sequence bytes) (λ width. body start width (place + 1) bytes)
    else with_front (b ∷ []) (body start zero (place + 1) bytes)))

-- the text of the string that opens at a place, its opening quote in front of the bytes, and where
-- it ends
unfoldable pub string_text : ℕ → List ℕ → Result (List ℕ × ℕ) Refusal
string_text place bytes =
    if starts_with nat_eq bytes (codes "\"\"") then Err (bad_string place)
    else body place 0 (place + 1) bytes
