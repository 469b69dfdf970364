-- Where a symbol stands in a text. The tokens before it tell.
use Rattle.std.specs.Prelude.{ℕ, Bool, List, [], ◌∷◌, drop, codes, nat_eq, Option, None, Some}
use Rattle.std.specs.Prelude.{if◌then◌else◌}
use Rattle.std.specs.Cmp.Lexicographic.{pointwise}
use Rattle.cue_lex.specs.declared.token.Token.{Token}
use Rattle.cue_lex.specs.declared.token.TokenKind.{TokenKind}
use Rattle.cue_lex.specs.declared.token.TokenKind.TheVariants as kinds
use Rattle.cue_lex.specs.declared.punctuation.Punctuation.TheVariants as points
use Rattle.cue_syntax.specs.declared.spot.Position.{Position}
use Rattle.cue_syntax.specs.declared.spot.Position.TheVariants as spots
use Rattle.cue_syntax.specs.declared.spot.Inside.{Inside}
use Rattle.cue_syntax.specs.declared.spot.Inside.TheVariants as insides

abbrev pub is_close : List ℕ → Bool
is_close name = pointwise nat_eq name (codes "close")

-- What is open, the innermost first. At the top of the text nothing is.
abbrev pub innermost_open : List Inside → Option Inside
innermost_open [] = None
innermost_open (inside ∷ opened) = Some inside

-- a list takes no further element after its `...`
abbrev pub after_ellipsis : List Inside → List Inside
after_ellipsis (insides.List ∷ opened) = insides.Rest ∷ opened
after_ellipsis opened = opened

-- what is open after a token
abbrev pub open_after : List Inside → TokenKind → List Inside
open_after opened (kinds.Mark points.OpenBrace) = insides.Struct ∷ opened
open_after opened (kinds.Mark points.OpenBracket) = insides.List ∷ opened
open_after opened (kinds.Mark points.OpenParenthesis) = insides.Parenthesis ∷ opened
open_after opened (kinds.Mark points.CloseBrace) = drop 1 opened
open_after opened (kinds.Mark points.CloseBracket) = drop 1 opened
open_after opened (kinds.Mark points.CloseParenthesis) = drop 1 opened
open_after opened (kinds.Mark points.Ellipsis) = after_ellipsis opened
open_after opened _ = opened

-- after a comma: the next declaration of the text or of a struct, or the next element of a list
abbrev pub after_comma : Option Inside → Position
after_comma None = spots.Top
after_comma (Some insides.Struct) = spots.Inner
after_comma (Some insides.List) = spots.Operand
after_comma _ = spots.Other

-- after `...`: of the text or a struct, or of a list, where an operand may follow
abbrev pub after_dots : Option Inside → Position
after_dots None = spots.Ellipsis
after_dots (Some insides.Struct) = spots.Ellipsis
after_dots (Some insides.List) = spots.Operand
after_dots _ = spots.Other

-- after `(`: an operand, or the argument of a `close`
abbrev pub after_parenthesis : Position → Position
after_parenthesis spots.CloseName = spots.CloseArgument
after_parenthesis _ = spots.Operand

-- the spot after a token, by what is open around that token and by its own spot
abbrev pub spot_after : Option Inside → Position → TokenKind → Position
spot_after inside spot (kinds.Mark points.Colon) = spots.Value
spot_after inside spot (kinds.Mark points.OpenBrace) = spots.Inner
spot_after inside spot (kinds.Mark points.OpenBracket) = spots.Operand
spot_after inside spot (kinds.Mark points.Ampersand) = spots.Operand
spot_after inside spot (kinds.Mark points.Bar) = spots.Operand
spot_after inside spot (kinds.Mark points.Star) = spots.Operand
spot_after inside spot (kinds.Mark points.OpenParenthesis) = after_parenthesis spot
spot_after inside spot (kinds.Mark points.Comma) = after_comma inside
spot_after inside spot (kinds.Mark points.Ellipsis) = after_dots inside
spot_after inside spot (kinds.Mark points.Less) = spots.Bound
spot_after inside spot (kinds.Mark points.AtMost) = spots.Bound
spot_after inside spot (kinds.Mark points.Greater) = spots.Bound
spot_after inside spot (kinds.Mark points.AtLeast) = spots.Bound
spot_after inside spot (kinds.Mark points.NotEqual) = spots.NotEqual
spot_after inside spot (kinds.Name t) = if is_close t then spots.CloseName else spots.Other
spot_after inside spot _ = spots.Other

-- the spot after tokens, from an earlier spot on
abbrev pub spot_from : List Inside → Position → List Token → Position
spot_from opened spot [] = spot
spot_from opened spot (token ∷ tokens) =
    spot_from (open_after opened token.kind) (spot_after (innermost_open opened) spot token.kind) tokens

-- the spot of the symbol that these tokens stand before
abbrev pub spot_of : List Token → Position
spot_of before = spot_from [] spots.Top before
