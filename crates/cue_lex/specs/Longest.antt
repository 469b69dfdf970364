-- At each place the longest token is taken: identifiers.
use Rattle.std.specs.Prelude.{◌≡◌, ◌<◌, ◌≤◌, ℕ, Bool, List, ◌++◌, Ok, codes, length, take}
use Rattle.std.specs.Str.{IsUtf8}
use Rattle.cue_lex.specs.declared.token.TokenKind.TheVariants as kinds
use Rattle.cue_lex.specs.declared.lexeme.Lexeme.TheVariants.{Word}
use Rattle.cue_lex.specs.Lexemes.{lexeme}
use Rattle.cue_lex.specs.Names.{identifier_len, IsIdentifierText}

-- The first bytes, as many as len says, are an identifier if they are any, and no more of the first
-- bytes are one.
pub record IsLongestIdentifier (bytes : List ℕ) (len : ℕ) : Type 0 where
  pub within : len ≤ length bytes
  pub is : 0 < len → IsIdentifierText (take len bytes)
  pub longest : (front rest : List ℕ) → IsIdentifierText front → bytes ≡ front ++ rest
      → length front ≤ len

-- of all the identifiers that stand at the front of a text the longest is taken
abbrev pub TakesTheLongestIdentifier : Type 0
TakesTheLongestIdentifier =
    (bytes : List ℕ) → IsUtf8 bytes → IsLongestIdentifier bytes (identifier_len bytes)

-- _|_ stands at the front: it is taken, and each identifier that stands there is shorter
pub record IsTakenAsBottom (bytes : List ℕ) : Type 0 where
  pub taken : (after_minus : Bool) (place : ℕ)
      → lexeme after_minus place bytes ≡ Ok (Word kinds.Bottom 3)
  pub shorter : (front rest : List ℕ) → IsIdentifierText front → bytes ≡ front ++ rest
      → length front < 3

-- where _|_ stands it is the longest token
abbrev pub TakesBottomBeforeNames : Type 0
TakesBottomBeforeNames = (rest : List ℕ) → IsTakenAsBottom (codes "_|_" ++ rest)
