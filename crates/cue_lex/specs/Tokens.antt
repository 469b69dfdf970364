-- The tokens of a text, or its first fault.
use Rattle.std.specs.Prelude.{ℕ, zero, suc, Bool, false, List, [], ◌∷◌, Option, Some, None}
use Rattle.std.specs.Prelude.{Result, Ok, Err, ◌+◌, ◌-◌, length, nat_le, if◌then◌else◌}
use Rattle.cue_lattice.specs.declared.refusal.Kind.TheVariants as refusals
use Rattle.cue_lattice.specs.declared.refusal.Refusal.{Refusal}
use Rattle.cue_lattice.specs.Limits.{text_limit}
use Rattle.cue_lattice.specs.Refusal.{refusal_at}
use Rattle.cue_lex.specs.declared.token.Token.{Token}
use Rattle.cue_lex.specs.declared.token.TokenKind.TheVariants as kinds
use Rattle.cue_lex.specs.declared.punctuation.Punctuation.TheVariants as points
use Rattle.cue_lex.specs.declared.lexeme.Lexeme.{Lexeme}
use Rattle.cue_lex.specs.declared.lexeme.Lexeme.TheVariants.{Blank, LineBreak, Word}
use Rattle.cue_lex.specs.Lexemes.{lexeme}
use Rattle.cue_lex.specs.Kinds.{is_minus, ends_line}

-- The tokens as they are written, and the line breaks between them.
pub data LexedPiece : Type 0 where
  Written : Token → LexedPiece
  Break : LexedPiece

-- a piece in front of the others
abbrev pub in_front : LexedPiece → Result (List LexedPiece) Refusal → Result (List LexedPiece) Refusal
in_front piece (Ok pieces) = Ok (piece ∷ pieces)
in_front piece (Err refusal) = Err refusal

-- What stands at a place, and the pieces after it: rest takes how many further bytes belong to it,
-- and whether a minus stands before what follows.
abbrev pub at_place : Bool → ℕ → Result Lexeme Refusal → (Bool → ℕ → Result (List LexedPiece) Refusal)
    → Result (List LexedPiece) Refusal
at_place minus place (Err refusal) rest = Err refusal
at_place minus place (Ok (Blank len)) rest = rest minus (len - 1)
at_place minus place (Ok LineBreak) rest = in_front Break (rest minus 0)
at_place minus place (Ok (Word kind len)) rest =
    in_front (Written (record { kind = kind; from = place; to = place + len }))
    (rest (is_minus kind) (len - 1))

-- The pieces of the bytes from a place on, or the first fault. The first of the bytes, as many as
-- inside says, still belong to what stands before; minus says that the token before is a minus.
abbrev pub pieces : Bool → ℕ → ℕ → List ℕ → Result (List LexedPiece) Refusal
pieces minus inside place [] = Ok []
pieces minus (suc inside) place (b ∷ bytes) = pieces minus inside (place + 1) bytes
pieces minus zero place (b ∷ bytes) =
    at_place minus place (lexeme minus place (b ∷ bytes))
    (λ after inside. pieces after inside (place + 1) bytes)

-- a comma that a line break inserts after a token that ends there
abbrev pub inserted_comma : ℕ → Token
inserted_comma end = record { kind = (kinds.Mark points.Comma); from = end; to = end }

-- where a line break after the token inserts a comma, if it does
abbrev pub line_end_of_text : Token → Option ℕ
line_end_of_text token = if ends_line token.kind then Some token.to else None

-- The tokens of the pieces with the inserted commas: one at the end of each token that can end a
-- line, where a line break stands before the next token. last is that end of the token before,
-- until a line break came.
abbrev pub with_commas : Option ℕ → List LexedPiece → List Token
with_commas last [] = []
with_commas last (Written token ∷ rest) = token ∷ with_commas (line_end_of_text token) rest
with_commas None (Break ∷ rest) = with_commas None rest
with_commas (Some end) (Break ∷ rest) = inserted_comma end ∷ with_commas None rest

abbrev pub commas : Option ℕ → Result (List LexedPiece) Refusal → Result (List Token) Refusal
commas last (Ok found) = Ok (with_commas last found)
commas last (Err refusal) = Err refusal

-- why a text of more bytes than the limit is refused
abbrev pub text_too_long : Refusal
text_too_long = refusal_at refusals.TooLong text_limit

-- the tokens of a text, or its first fault
unfoldable pub tokens : List ℕ → Result (List Token) Refusal
tokens text =
    if nat_le (length text) text_limit then commas None (pieces false 0 0 text) else Err text_too_long
