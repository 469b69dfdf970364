-- What the kind of a token says of its text, and of what follows it.
use Rattle.std.specs.Prelude.{Bool, true, false}
use Rattle.cue_lattice.specs.Word.{IsWord}
use Rattle.cue_lex.specs.declared.token.TokenKind.{TokenKind}
use Rattle.cue_lex.specs.declared.token.TokenKind.TheVariants as kinds
use Rattle.cue_lex.specs.declared.punctuation.Punctuation.TheVariants as points

abbrev pub is_minus : TokenKind → Bool
is_minus (kinds.Mark points.Minus) = true
is_minus _ = false

-- a line break after such a token inserts a comma
abbrev pub ends_line : TokenKind → Bool
ends_line (kinds.Name name) = true
ends_line (kinds.Definition name) = true
ends_line (kinds.Hidden name) = true
ends_line (kinds.Text text) = true
ends_line (kinds.Integer n) = true
ends_line kinds.Bottom = true
ends_line (kinds.Mark points.CloseParenthesis) = true
ends_line (kinds.Mark points.CloseBracket) = true
ends_line (kinds.Mark points.CloseBrace) = true
ends_line (kinds.Mark points.Ellipsis) = true
ends_line (kinds.Mark points.Question) = true
ends_line (kinds.Mark points.Exclamation) = true
ends_line _ = false

-- what the token names or quotes, if it does, is a word
abbrev pub HasWord : TokenKind → Type 0
HasWord (kinds.Name name) = IsWord name
HasWord (kinds.Definition name) = IsWord name
HasWord (kinds.Hidden name) = IsWord name
HasWord (kinds.Text text) = IsWord text
HasWord _ = Unit {0}
