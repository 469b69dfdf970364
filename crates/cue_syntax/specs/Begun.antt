-- With which tokens a text may begin, as far as its first two tell.
use Rattle.std.specs.Prelude.{◌⊎◌, List, codes}
use Rattle.cue_lex.specs.declared.token.Token.{Token}
use Rattle.cue_lex.specs.declared.token.TokenKind.TheVariants as kinds
use Rattle.cue_lex.specs.declared.punctuation.Punctuation.TheVariants as points
use Rattle.cue_syntax.specs.Viability.{IsSignAt, BeginsLabel, BeginsDefinition}

-- a declaration may begin so
abbrev pub MayBeginEntry : List Token → Type 0
MayBeginEntry ts = IsSignAt (kinds.Mark points.Ellipsis) ts ⊎ BeginsLabel ts ⊎ BeginsDefinition ts

-- a text may begin so: with a declaration, or with its package clause
abbrev pub MayBeginText : List Token → Type 0
MayBeginText ts = MayBeginEntry ts ⊎ IsSignAt (kinds.Name (codes "package")) ts
