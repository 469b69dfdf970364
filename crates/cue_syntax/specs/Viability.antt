-- Where tokens leave the grammar, and what a refusal of the parser says of that place.
use Rattle.std.specs.Prelude.{◌≡◌, ◌≢◌, ◌≤◌, ◌⊎◌, ℕ, suc, Bool, true, false, List, [], ◌∷◌, take}
use Rattle.std.specs.Prelude.{drop, length, codes, ⊤}
use Rattle.cue_lex.specs.declared.token.Token.{Token}
use Rattle.cue_lex.specs.declared.token.TokenKind.{TokenKind}
use Rattle.cue_lex.specs.declared.token.TokenKind.TheVariants as kinds
use Rattle.cue_lex.specs.declared.punctuation.Punctuation.TheVariants as points
use Rattle.cue_syntax.specs.declared.stop.ParserStop.{ParserStop}
use Rattle.cue_syntax.specs.declared.stop.Why.TheVariants as reasons
use Rattle.cue_syntax.specs.Stops.{at_hand}
use Rattle.cue_syntax.specs.Syntax.{FileTree}
use Rattle.cue_syntax.specs.Grammar.{Limit, IsFileTree, IsClause, IsKeyword}

-- alike in their first n symbols, where the end of a text is a symbol too
abbrev pub Alike : ℕ → List Token → List Token → Type 0
Alike n a b = take n a ≡ take n b

-- the first n symbols begin some text of the grammar, within the limit of levels
pub record BeginsText (limit : Limit) (n : ℕ) (tokens : List Token) : Type 0 where
  pub whole : List Token
  pub tree : FileTree
  pub alike : Alike n tokens whole
  pub is : IsFileTree limit whole tree

-- After k tokens the tokens leave the grammar: those k begin a text, and with the next symbol they
-- begin none.
pub record Leaves (limit : Limit) (tokens : List Token) (k : ℕ) : Type 0 where
  pub inside : k ≤ length tokens
  pub before : BeginsText limit k tokens
  pub behind : ¬ BeginsText limit (suc k) tokens

-- where a symbol stands: a token, or the end of the text
abbrev pub place_of_symbol : ℕ → List Token → ℕ
place_of_symbol end [] = end
place_of_symbol end (token ∷ tokens) = token.from

abbrev pub IsMark : TokenKind → Type 0
IsMark (kinds.Mark points.Colon) = ⊤
IsMark (kinds.Mark points.Question) = ⊤
IsMark (kinds.Mark points.Exclamation) = ⊤
IsMark _ = ⊥

-- an integer with its sign begins so
abbrev pub BeginsInteger : TokenKind → Type 0
BeginsInteger (kinds.Integer n) = ⊤
BeginsInteger (kinds.Mark points.Minus) = ⊤
BeginsInteger (kinds.Mark points.Plus) = ⊤
BeginsInteger _ = ⊥

-- an expression of the whole language can begin so
abbrev pub BeginsExpression : TokenKind → Type 0
BeginsExpression (kinds.Name t) = ⊤
BeginsExpression (kinds.Definition t) = ⊤
BeginsExpression (kinds.Hidden t) = ⊤
BeginsExpression (kinds.Text t) = ⊤
BeginsExpression (kinds.Integer n) = ⊤
BeginsExpression kinds.Bottom = ⊤
BeginsExpression (kinds.Mark points.OpenBrace) = ⊤
BeginsExpression (kinds.Mark points.OpenBracket) = ⊤
BeginsExpression (kinds.Mark points.OpenParenthesis) = ⊤
BeginsExpression (kinds.Mark points.Star) = ⊤
BeginsExpression (kinds.Mark points.Minus) = ⊤
BeginsExpression (kinds.Mark points.Plus) = ⊤
BeginsExpression (kinds.Mark points.Less) = ⊤
BeginsExpression (kinds.Mark points.AtMost) = ⊤
BeginsExpression (kinds.Mark points.Greater) = ⊤
BeginsExpression (kinds.Mark points.AtLeast) = ⊤
BeginsExpression (kinds.Mark points.NotEqual) = ⊤
BeginsExpression _ = ⊥

abbrev pub IsCallable : TokenKind → Type 0
IsCallable (kinds.Name t) = t ≢ codes "close"
IsCallable (kinds.Hidden t) = ⊤
IsCallable _ = ⊥

abbrev pub BeginsClause : TokenKind → Type 0
BeginsClause (kinds.Name t) = IsClause t
BeginsClause _ = ⊥

abbrev pub IsKeywordName : TokenKind → Type 0
IsKeywordName (kinds.Name t) = IsKeyword t
IsKeywordName _ = ⊥

abbrev pub IsHidden : TokenKind → Type 0
IsHidden (kinds.Hidden t) = ⊤
IsHidden _ = ⊥

abbrev pub IsDefinition : TokenKind → Type 0
IsDefinition (kinds.Definition t) = ⊤
IsDefinition _ = ⊥

-- the first of the tokens is so
abbrev pub IsTokenAt : (TokenKind → Type 0) → List Token → Type 0
IsTokenAt P [] = ⊥
IsTokenAt P (token ∷ tokens) = P token.kind

abbrev pub Next : (TokenKind → Type 0) → List Token → Type 0
Next P [] = ⊥
Next P (token ∷ tokens) = IsTokenAt P tokens

-- this sign stands first
abbrev pub IsSignAt : TokenKind → List Token → Type 0
IsSignAt sign = IsTokenAt (λ k. k ≡ sign)

abbrev pub NextSign : TokenKind → List Token → Type 0
NextSign sign = Next (λ k. k ≡ sign)

-- a field begins with these tokens: a plain name or a string, and a mark
abbrev pub IsLabelName : TokenKind → Type 0
IsLabelName (kinds.Name t) = ⊤
IsLabelName (kinds.Text t) = ⊤
IsLabelName _ = ⊥

abbrev pub BeginsLabel : List Token → Type 0
BeginsLabel ts = IsTokenAt IsLabelName ts × Next IsMark ts

-- a label, a `?` or `!` after it, and then no colon
abbrev pub LacksColon : List Token → Type 0
LacksColon ts =
    IsTokenAt IsLabelName ts
    × (NextSign (kinds.Mark points.Question) ts ⊎ NextSign (kinds.Mark points.Exclamation) ts)
    × ¬ IsSignAt (kinds.Mark points.Colon) (drop 2 ts)

-- `close` and a parenthesis
abbrev pub IsCallOfClose : List Token → Type 0
IsCallOfClose ts =
    IsSignAt (kinds.Name (codes "close")) ts × NextSign (kinds.Mark points.OpenParenthesis) ts

-- a parenthesis, a brace or a bracket opens
abbrev pub Opens : TokenKind → Type 0
Opens (kinds.Mark points.OpenParenthesis) = ⊤
Opens (kinds.Mark points.OpenBrace) = ⊤
Opens (kinds.Mark points.OpenBracket) = ⊤
Opens _ = ⊥

-- The parser stops after a keyword.
pub record RefusesKeyword (end : ℕ) (tokens : List Token) (stop : ParserStop) : Type 0 where
  pub is : stop ≡ at_hand reasons.Syntax end (drop 1 tokens)
  pub keyword : IsTokenAt IsKeywordName tokens

-- The parser stops after a label whose mark has no colon after it.
pub record MissesColon (end : ℕ) (tokens : List Token) (stop : ParserStop) : Type 0 where
  pub is : stop ≡ at_hand reasons.Syntax end (drop 2 tokens)
  pub lacks : LacksColon tokens

-- a definition as a label
abbrev pub BeginsDefinition : List Token → Type 0
BeginsDefinition ts = IsTokenAt IsDefinition ts × NextSign (kinds.Mark points.Colon) ts

-- declarations end here: at the top at the end of the text, else at a brace
abbrev pub EndsHere : Bool → List Token → Type 0
EndsHere true ts = ts ≡ []
EndsHere false ts = IsSignAt (kinds.Mark points.CloseBrace) ts
