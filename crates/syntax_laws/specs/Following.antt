-- What can come next after tokens that begin a text, and the spot there. The grammar says the
-- first, the tokens alone the second.
use Rattle.std.specs.Prelude.{◌≡◌, ◌↔◌, List, [], ◌∷◌, ◌++◌, length}
use Rattle.cue_lex.specs.declared.token.Token.{Token}
use Rattle.cue_lex.specs.declared.token.TokenKind.{TokenKind}
use Rattle.cue_lex.specs.declared.token.TokenKind.TheVariants as kinds
use Rattle.cue_lex.specs.declared.punctuation.Punctuation.TheVariants as points
use Rattle.cue_syntax.specs.declared.spot.Position.TheVariants as spots
use Rattle.cue_syntax.specs.Grammar.{unlimited}
use Rattle.cue_syntax.specs.Viability.{BeginsText}
use Rattle.cue_syntax.specs.Spots.{spot_of}
use Rattle.cue_syntax.specs.Forms.{IsOfLabel, IsOfOperand}

-- the tokens begin some text of any number of levels
abbrev pub BeginText : List Token → Type 0
BeginText tokens = BeginsText unlimited (length tokens) tokens

-- a token, wherever it stands
abbrev pub token_of : TokenKind → Token
token_of kind = record { kind = kind; from = 0; to = 0 }

-- an operand can come next: `_|_`, which is nothing else
abbrev pub OperandNext : List Token → Type 0
OperandNext before = BeginText (before ++ token_of kinds.Bottom ∷ [])

-- a label can come next: a string and its colon
abbrev pub LabelNext : List Token → Type 0
LabelNext before =
    BeginText (before ++ token_of (kinds.Text []) ∷ token_of (kinds.Mark points.Colon) ∷ [])

-- a definition can come next: its name and its colon
abbrev pub DefinitionNext : List Token → Type 0
DefinitionNext before =
    BeginText (before ++ token_of (kinds.Definition []) ∷ token_of (kinds.Mark points.Colon) ∷ [])

-- The spot after the tokens is that of what can come next: of an operand, of a label, of a value
-- where both can, and of a declaration of the text where a definition can.
pub record SpotTellsNext (before : List Token) : Type 0 where
  pub operand : IsOfOperand (spot_of before) ↔ OperandNext before
  pub label : IsOfLabel (spot_of before) ↔ LabelNext before
  pub value : (spot_of before ≡ spots.Value) ↔ (OperandNext before × LabelNext before)
  pub top : (spot_of before ≡ spots.Top) ↔ DefinitionNext before

-- so it is wherever tokens begin a text
abbrev pub SpotsFollowTheGrammar : Type 0
SpotsFollowTheGrammar = (before : List Token) → BeginText before → SpotTellsNext before
