-- The forms that the profile leaves out: at which spot each is looked for, and what is seen there.
-- At one spot the first row that holds counts, so each row says what the earlier rows of its spot
-- do not see.
use Rattle.std.specs.Prelude.{◌≡◌, ◌⊎◌, List, ⊤}
use Rattle.cue_lattice.specs.declared.refusal.Form.{Form}
use Rattle.cue_lattice.specs.declared.refusal.Form.TheVariants as forms
use Rattle.cue_lex.specs.declared.token.Token.{Token}
use Rattle.cue_lex.specs.declared.token.TokenKind.{TokenKind}
use Rattle.cue_lex.specs.declared.token.TokenKind.TheVariants as kinds
use Rattle.cue_lex.specs.declared.punctuation.Punctuation.TheVariants as points
use Rattle.cue_syntax.specs.declared.spot.Position.{Position}
use Rattle.cue_syntax.specs.declared.spot.Position.TheVariants as spots
use Rattle.cue_syntax.specs.Viability.{IsTokenAt, Next, IsSignAt, NextSign, IsMark, IsHidden}
use Rattle.cue_syntax.specs.Viability.{IsDefinition, IsCallable, BeginsClause, BeginsExpression}
use Rattle.cue_syntax.specs.Viability.{BeginsInteger}

-- a declaration begins here
abbrev pub IsOfDeclaration : Position → Type 0
IsOfDeclaration spots.Top = ⊤
IsOfDeclaration spots.Inner = ⊤
IsOfDeclaration _ = ⊥

-- a label may stand here: a declaration begins, or a colon stands before
abbrev pub IsOfLabel : Position → Type 0
IsOfLabel spots.Top = ⊤
IsOfLabel spots.Inner = ⊤
IsOfLabel spots.Value = ⊤
IsOfLabel _ = ⊥

-- a label may stand here, but no definition
abbrev pub IsOfField : Position → Type 0
IsOfField spots.Inner = ⊤
IsOfField spots.Value = ⊤
IsOfField _ = ⊥

-- an operand begins here
abbrev pub IsOfOperand : Position → Type 0
IsOfOperand spots.Value = ⊤
IsOfOperand spots.Operand = ⊤
IsOfOperand _ = ⊥

abbrev pub IsTextToken : TokenKind → Type 0
IsTextToken (kinds.Text t) = ⊤
IsTextToken _ = ⊥

abbrev pub CanBeLabel : TokenKind → Type 0
CanBeLabel (kinds.Name t) = ⊤
CanBeLabel (kinds.Definition t) = ⊤
CanBeLabel (kinds.Hidden t) = ⊤
CanBeLabel (kinds.Text t) = ⊤
CanBeLabel _ = ⊥

-- a label and its mark
abbrev pub SeesLabel : List Token → Type 0
SeesLabel ts = IsTokenAt CanBeLabel ts × Next IsMark ts

-- a label in brackets or parentheses
abbrev pub SeesDynamicLabel : List Token → Type 0
SeesDynamicLabel ts =
    IsSignAt (kinds.Mark points.OpenBracket) ts
    ⊎ IsSignAt (kinds.Mark points.OpenParenthesis) ts

-- `?` or `!` after the first token
abbrev pub NextMark : List Token → Type 0
NextMark ts = NextSign (kinds.Mark points.Question) ts ⊎ NextSign (kinds.Mark points.Exclamation) ts

-- the argument of a bound is none that the grammar has
abbrev pub IsNoArgument : Position → List Token → Type 0
IsNoArgument spots.Bound ts = ¬ IsTokenAt BeginsInteger ts
IsNoArgument spots.NotEqual ts = ¬ IsTokenAt BeginsInteger ts × ¬ IsTokenAt IsTextToken ts
IsNoArgument _ ts = ⊥

-- This form stands at a spot, where these tokens are left.
abbrev pub IsFormAt : Form → Position → List Token → Type 0
IsFormAt forms.HiddenLabel spot ts = IsOfLabel spot × IsTokenAt IsHidden ts × Next IsMark ts
IsFormAt forms.MarkedDefinition spot ts = IsOfLabel spot × IsTokenAt IsDefinition ts × NextMark ts
IsFormAt forms.NestedDefinition spot ts =
    IsOfField spot × IsTokenAt IsDefinition ts × NextSign (kinds.Mark points.Colon) ts
IsFormAt forms.Clause spot ts = IsOfDeclaration spot × IsTokenAt BeginsClause ts × ¬ SeesLabel ts
IsFormAt forms.DynamicLabel spot ts = IsOfDeclaration spot × SeesDynamicLabel ts
IsFormAt forms.Embedding spot ts =
    IsOfDeclaration spot × IsTokenAt BeginsExpression ts × ¬ SeesLabel ts × ¬ IsTokenAt BeginsClause ts
    × ¬ SeesDynamicLabel ts
IsFormAt forms.TypedEllipsis spot ts = (spot ≡ spots.Ellipsis) × IsTokenAt BeginsExpression ts
-- the grammar has the typed rest of a list, so that none is left out
IsFormAt forms.TypedRest spot ts = ⊥
IsFormAt forms.Bound spot ts = IsNoArgument spot ts × IsTokenAt BeginsExpression ts
IsFormAt forms.Call spot ts =
    IsOfOperand spot × IsTokenAt IsCallable ts × NextSign (kinds.Mark points.OpenParenthesis) ts
IsFormAt forms.CloseArgument spot ts =
    (spot ≡ spots.CloseArgument) × IsTokenAt BeginsExpression ts
    × ¬ IsSignAt (kinds.Mark points.OpenBrace) ts
