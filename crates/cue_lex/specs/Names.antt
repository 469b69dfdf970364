-- Identifiers: optionally # or _#, then a letter, then letters and digits.
use Rattle.std.specs.Prelude.{◌≡◌, ℕ, true, false, List, [], ◌∷◌, ◌++◌, ◌⊎◌, ◌+◌, ◌&&◌, codes, drop}
use Rattle.std.specs.Prelude.{length, take_while, slice_get, encode_utf8_all, nat_eq, nat_lt, max}
use Rattle.std.specs.Prelude.{if◌then◌else◌}
use Rattle.std.specs.List.{starts_with, list_all}
use Rattle.std.specs.Option.{option_map_or}
use Rattle.std.specs.Str.{chars, all_scalars}
use Rattle.cue_lex.specs.Characters.{is_letter, is_name_part}

-- how many bytes the letters and digits at the front have
unfoldable pub run_len : List ℕ → ℕ
run_len bytes = length (encode_utf8_all (take_while is_name_part (chars bytes)))

-- how many bytes a letter and the letters and digits after it have, 0 where no letter stands at the
-- front
unfoldable pub word_len : List ℕ → ℕ
word_len bytes =
    if option_map_or is_letter (slice_get (chars bytes) 0) false then run_len bytes else 0

-- the same after a sign, the sign included
unfoldable pub signed_len : List ℕ → List ℕ → ℕ
signed_len sign bytes =
    if starts_with nat_eq bytes sign && nat_lt 0 (word_len (drop (length sign) bytes))
    then length sign + word_len (drop (length sign) bytes)
    else 0

-- how many bytes the longest identifier at the front has, 0 where none stands there
unfoldable pub identifier_len : List ℕ → ℕ
identifier_len bytes =
    max (max (word_len bytes) (signed_len (codes "#") bytes)) (signed_len (codes "_#") bytes)

-- an identifier, as the language has it: optionally # or _#, then a letter, then letters and digits
pub record IsIdentifierText (spelled : List ℕ) : Type 0 where
  pub sign : List ℕ
  pub letter : ℕ
  pub parts : List ℕ
  pub one_sign : (sign ≡ []) ⊎ ((sign ≡ codes "#") ⊎ (sign ≡ codes "_#"))
  pub characters : all_scalars (letter ∷ parts) ≡ true
  pub letter_first : is_letter letter ≡ true
  pub parts_after : list_all is_name_part parts ≡ true
  pub spells : spelled ≡ sign ++ encode_utf8_all (letter ∷ parts)
