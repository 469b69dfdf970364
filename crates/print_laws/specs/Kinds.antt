-- The tokens of a text by their kinds, told from the end of the text to its front.
use Rattle.std.specs.Prelude.{◌≡◌, ◌<◌, ℕ, Bool, true, false, List, [], ◌∷◌, ◌++◌, map, Option}
use Rattle.std.specs.Prelude.{is_some, Ok, nat_eq}
use Rattle.std.specs.Str.{IsUtf8}
use Rattle.cue_lex.specs.declared.token.Token.{Token}
use Rattle.cue_lex.specs.declared.token.TokenKind.{TokenKind}
use Rattle.cue_lex.specs.Characters.{is_ascii_part}
use Rattle.cue_lex.specs.Integers.{is_literal_byte}
use Rattle.cue_lex.specs.Tokens.{pieces, commas}

abbrev pub kinds_of_bytes : List Token → List TokenKind
kinds_of_bytes tokens = map (λ token. token.kind) tokens

-- The bytes at a place have tokens of these kinds, the inserted commas among them.
pub record Lexed (minus : Bool) (place : ℕ) (last : Option ℕ) (bytes : List ℕ)
    (kinds : List TokenKind) : Type 0 where
  pub found : List Token
  pub are : commas last (pieces minus 0 place bytes) ≡ Ok found
  pub same : kinds_of_bytes found ≡ kinds

-- The bytes have tokens of these kinds wherever they stand. `minus` says that the token before them
-- is a minus, and `ended` that a line break at their front inserts a comma.
pub record HasKinds (minus ended : Bool) (bytes : List ℕ) (kinds : List TokenKind)
    : Type 0 where
  pub utf8 : IsUtf8 bytes
  pub lexed : (place : ℕ) (last : Option ℕ) → is_some last ≡ ended
      → Lexed minus place last bytes kinds

-- A byte that no token goes on with: neither a name, a number or a quote, nor `_` to `_|_` or `_#`.
pub record IsStopByte (b : ℕ) : Type 0 where
  pub ascii : b < 128
  pub part : is_ascii_part b ≡ false
  pub literal : is_literal_byte b ≡ false
  pub quote : nat_eq 34 b ≡ false
  pub bar : nat_eq 124 b ≡ false
  pub number_sign : nat_eq 35 b ≡ false

-- the bytes cannot go on with a token that stands before them
abbrev pub IsTokenEnd : List ℕ → Type 0
IsTokenEnd [] = Unit {0}
IsTokenEnd (b ∷ bytes) = IsStopByte b

-- In front of any rest that cannot go on, the text adds tokens of these kinds; the last of them
-- ends a line.
pub record IsKindRead (text : List ℕ) (kinds : List TokenKind) : Type 0 where
  pub reads : (ended : Bool) (rest : List ℕ) (more : List TokenKind) → IsTokenEnd rest
      → HasKinds false true rest more → HasKinds false ended (text ++ rest) (kinds ++ more)
