-- Beside `specs/Operands.antt`: what private clauses and proofs alone cite.
use Rattle.std.specs.Prelude.{◌≡◌, ◌≢◌}
use Rattle.cue_lex.specs.declared.token.TokenKind.{TokenKind}
use Rattle.cue_lex.specs.declared.token.TokenKind.TheVariants as kinds
use Rattle.cue_lex.specs.declared.punctuation.Punctuation.{Punctuation}
use Rattle.cue_lex.specs.declared.punctuation.Punctuation.TheVariants as points
use Rattle.cue_syntax.specs.declared.literal.Beginning.{Beginning}
use Rattle.cue_syntax.specs.declared.literal.Beginning.TheVariants as beginnings
use Rattle.cue_syntax.specs.declared.tree.Sign.{Sign}
use Rattle.cue_syntax.specs.declared.tree.Sign.TheVariants as signs
use Rattle.cue_syntax.specs.Viability.{BeginsInteger}
use Rattle.cue_syntax.specs.Inner.Viability.{IsComparison}

-- which literal a mark begins
abbrev pub IsBeginning : Beginning → Punctuation → Type 0
IsBeginning beginnings.Integer mark = BeginsInteger (kinds.Mark mark)
IsBeginning beginnings.Bound mark = IsComparison (kinds.Mark mark)
IsBeginning beginnings.NotEqual mark = mark ≡ points.NotEqual
IsBeginning beginnings.Nothing mark =
    ¬ BeginsInteger (kinds.Mark mark) × ¬ IsComparison (kinds.Mark mark) × (mark ≢ points.NotEqual)

-- the sign that a token is
abbrev pub IsSign : Sign → TokenKind → Type 0
IsSign signs.Minus kind = kind ≡ kinds.Mark points.Minus
IsSign signs.Plus kind = kind ≡ kinds.Mark points.Plus
IsSign signs.Absent kind = (kind ≢ kinds.Mark points.Minus) × (kind ≢ kinds.Mark points.Plus)
