-- The tokens of a legal text.
use Rattle.std.proofs.Common.{◌≡◌, List, [], ◌∷◌, Ok, refl}
use Rattle.std.specs.Prelude.{codes}
use Rattle.std.specs.Str.{chars}
use Rattle.unicode.proofs.CategoryComputing.{ucd_category}
use lib.Utf8.{encode}
use Rattle.cue_lex.specs.declared.punctuation.Punctuation.TheVariants as points
use Rattle.cue_lex.specs.declared.token.Token.{Token}
use Rattle.cue_lex.specs.declared.token.TokenKind.TheVariants as kinds
use Rattle.cue_lex.specs.Characters.{is_letter, is_name_part}
use Rattle.cue_lex.specs.Integers.{literal_number, digits_number}
use Rattle.cue_lex.specs.Lexemes.{lexeme, integer, lex_name, name_kind}
use Rattle.cue_lex.specs.Marks.{mark_in_front, single_mark}
use Rattle.cue_lex.specs.Names.{identifier_len, word_len, run_len, signed_len}
use Rattle.cue_lex.specs.Tokens.{tokens}

abbrev pub words : List Token
words =
    record { kind = kinds.Name (codes "a"); from = 0; to = 1 } ∷
    record { kind = (kinds.Mark points.Colon); from = 1; to = 2 } ∷
    record { kind = kinds.Integer 1; from = 3; to = 4 } ∷
    []

pub lexed : tokens (codes "a: 1") ≡ Ok words
unfolding tokens lexeme integer literal_number digits_number lex_name name_kind identifier_len word_len run_len signed_len is_letter is_name_part ucd_category mark_in_front single_mark chars encode
lexed = refl
