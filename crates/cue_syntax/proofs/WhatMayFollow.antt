-- What may stand after a part of a tree.
use Rattle.std.specs.Prelude.{List, [], ◌∷◌, ⊤}
use Rattle.cue_lex.specs.declared.token.Token.{Token}
use Rattle.cue_lex.specs.declared.token.TokenKind.{TokenKind}
use Rattle.cue_lex.specs.declared.token.TokenKind.TheVariants as kinds
use Rattle.cue_lex.specs.declared.punctuation.Punctuation.TheVariants as points
use Rattle.cue_syntax.specs.Spelling.{SpelledPiece}

-- the text ends here, or goes on with such a token
abbrev pub AtEnd : (TokenKind → Type 0) → List Token → Type 0
AtEnd P [] = ⊤
AtEnd P (token ∷ tokens) = P token.kind

-- a comma or a closing sign
abbrev pub ClosesExpression : TokenKind → Type 0
ClosesExpression (kinds.Mark points.Comma) = ⊤
ClosesExpression (kinds.Mark points.CloseParenthesis) = ⊤
ClosesExpression (kinds.Mark points.CloseBracket) = ⊤
ClosesExpression (kinds.Mark points.CloseBrace) = ⊤
ClosesExpression _ = ⊥

-- the same or `|`
abbrev pub ClosesTerm : TokenKind → Type 0
ClosesTerm (kinds.Mark points.Bar) = ⊤
ClosesTerm kind = ClosesExpression kind

-- the same, `|` or `&`
abbrev pub ClosesOperand : TokenKind → Type 0
ClosesOperand (kinds.Mark points.Ampersand) = ⊤
ClosesOperand kind = ClosesTerm kind

-- `&`, `|`, a comma, a closing sign, or the end
abbrev pub EndsOperand : List Token → Type 0
EndsOperand = AtEnd ClosesOperand

-- the same but `&`
abbrev pub EndsTerm : List Token → Type 0
EndsTerm = AtEnd ClosesTerm

-- the same but `&` and `|`
abbrev pub EndsExpression : List Token → Type 0
EndsExpression = AtEnd ClosesExpression

-- an operand or a bound begins so
abbrev pub BeginsOperand : TokenKind → Type 0
BeginsOperand (kinds.Name t) = ⊤
BeginsOperand (kinds.Definition t) = ⊤
BeginsOperand (kinds.Hidden t) = ⊤
BeginsOperand (kinds.Text t) = ⊤
BeginsOperand (kinds.Integer n) = ⊤
BeginsOperand kinds.Bottom = ⊤
BeginsOperand (kinds.Mark points.OpenBrace) = ⊤
BeginsOperand (kinds.Mark points.OpenBracket) = ⊤
BeginsOperand (kinds.Mark points.OpenParenthesis) = ⊤
BeginsOperand (kinds.Mark points.Minus) = ⊤
BeginsOperand (kinds.Mark points.Plus) = ⊤
BeginsOperand (kinds.Mark points.Less) = ⊤
BeginsOperand (kinds.Mark points.AtMost) = ⊤
BeginsOperand (kinds.Mark points.Greater) = ⊤
BeginsOperand (kinds.Mark points.AtLeast) = ⊤
BeginsOperand (kinds.Mark points.NotEqual) = ⊤
BeginsOperand _ = ⊥

-- no mark of a label
abbrev pub NoMark : TokenKind → Type 0
NoMark (kinds.Mark points.Colon) = ⊥
NoMark (kinds.Mark points.Question) = ⊥
NoMark (kinds.Mark points.Exclamation) = ⊥
NoMark _ = ⊤

-- the pieces begin so, where there are any
abbrev pub HeadIs : (TokenKind → Type 0) → List SpelledPiece → Type 0
HeadIs P [] = ⊤
HeadIs P (piece ∷ pieces) = P piece.kind

-- there are pieces, and they begin so
abbrev pub Opens : (TokenKind → Type 0) → List SpelledPiece → Type 0
Opens P [] = ⊥
Opens P (piece ∷ pieces) = P piece.kind
