-- The kinds of the tokens that spell a tree.
use Rattle.std.specs.Prelude.{List, map}
use Rattle.cue_lex.specs.declared.token.TokenKind.{TokenKind}
use Rattle.cue_syntax.specs.Spelling.{SpelledPiece}

abbrev pub spelled_kinds : List SpelledPiece → List TokenKind
spelled_kinds pieces = map (λ piece. piece.kind) pieces
