-- What a fact unfolds to compute the tokens of a text.
use Rattle.std.specs.Prelude.{⊤}
use Rattle.std.specs.Str.{chars}
use lib.Utf8.{encode}
use Rattle.unicode.proofs.CategoryComputing.{ucd_category}
use Rattle.cue_lex.specs.Characters.{is_letter, is_name_part}
use Rattle.cue_lex.specs.Integers.{literal_number, digits_number}
use Rattle.cue_lex.specs.Lexemes.{lexeme, string, integer, lex_name, name_kind}
use Rattle.cue_lex.specs.Marks.{mark_in_front, single_mark}
use Rattle.cue_lex.specs.Names.{identifier_len, signed_len, word_len, run_len}
use Rattle.cue_lex.specs.Strings.{string_text, escape_sequence, short_escape, simple_escape, four_digits, eight_digits}
use Rattle.cue_lex.specs.Tokens.{tokens}

unfoldable pub lexed : ⊤
unfolding tokens lexeme string integer lex_name name_kind literal_number digits_number mark_in_front single_mark identifier_len signed_len word_len run_len is_letter is_name_part ucd_category chars encode string_text escape_sequence short_escape simple_escape four_digits eight_digits
lexed = tt
