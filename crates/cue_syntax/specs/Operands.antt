-- With which tokens the rules of operands and literals begin.
use Rattle.std.specs.Prelude.{List}
use Rattle.cue_lex.specs.declared.token.Token.{Token}
use Rattle.cue_lex.specs.declared.token.TokenKind.TheVariants as kinds
use Rattle.cue_lex.specs.declared.punctuation.Punctuation.TheVariants as points
use Rattle.cue_syntax.specs.declared.cursor.Operand.{Operand}
use Rattle.cue_syntax.specs.declared.cursor.Operand.TheVariants as operands
use Rattle.cue_syntax.specs.Viability.{IsTokenAt, IsSignAt, Opens, IsCallOfClose}

-- what the rule of an operand begins with
abbrev pub IsOperandAt : Operand → List Token → Type 0
IsOperandAt operands.Parenthesis ts = IsSignAt (kinds.Mark points.OpenParenthesis) ts
IsOperandAt operands.Struct ts = IsSignAt (kinds.Mark points.OpenBrace) ts
IsOperandAt operands.List ts = IsSignAt (kinds.Mark points.OpenBracket) ts
IsOperandAt operands.Close ts = IsCallOfClose ts
IsOperandAt operands.Literal ts = ¬ IsTokenAt Opens ts × ¬ IsCallOfClose ts

-- neither `&` nor `|` follows an operand, and no parenthesis, which would make it a call
abbrev pub EndsOperand : List Token → Type 0
EndsOperand ts =
    ¬ IsSignAt (kinds.Mark points.Ampersand) ts × ¬ IsSignAt (kinds.Mark points.Bar) ts
    × ¬ IsSignAt (kinds.Mark points.OpenParenthesis) ts
