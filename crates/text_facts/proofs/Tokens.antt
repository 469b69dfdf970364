-- The tokens of short texts, with the commas that line breaks insert, or the first fault.
use Rattle.std.proofs.Common.{◌≡◌, true, false, [], ◌∷◌, Ok, refl}
use Rattle.std.specs.Prelude.{codes}
use Rattle.cue_lattice.specs.declared.refusal.Kind.TheVariants.{BadCharacter, BadNumber, BadString}
use Rattle.cue_lex.specs.declared.lexeme.Lexeme.TheVariants.{Blank, LineBreak, Word}
use Rattle.cue_lex.specs.declared.token.TokenKind.TheVariants.{Name, Definition, Hidden, Text, Integer, Bottom, Mark}
use Rattle.cue_lex.specs.declared.punctuation.Punctuation.TheVariants.{OpenBrace, CloseBrace, OpenBracket, CloseBracket, CloseParenthesis, Colon, Comma, Question, Exclamation, Bar, Ampersand, Star, Minus, Less, Ellipsis}
use Rattle.cue_lex.specs.Kinds.{is_minus, ends_line}
use Rattle.cue_lex.specs.Lexemes.{lexeme}
use Rattle.cue_lex.specs.Tokens.{tokens, Written, Break, with_commas}
use Rattle.std.specs.Prelude.{None}
use Rattle.text_facts.proofs.OnLiterals.{lexed}
use Rattle.text_facts.proofs.Spelt.{at, mark_at, name_at, digit_at, fault}

no_text : tokens [] ≡ Ok []
unfolding lexed
no_text = refl

a_field : tokens (codes "a: 1") ≡ Ok (name_at 0 (codes "a") ∷ mark_at 1 Colon ∷ digit_at 3 1 ∷ [])
unfolding lexed
a_field = refl

-- the comma is empty, and stands where the token before it ends
a_line_break_inserts_a_comma : tokens (codes "a: 1\n") ≡ Ok (name_at 0 (codes "a") ∷ mark_at 1 Colon ∷ digit_at 3 1 ∷ at 4 4 (Mark Comma) ∷ [])
unfolding lexed
a_line_break_inserts_a_comma = refl

-- behind a space and a comment too, and once for several line breaks
one_comma_for_a_line : tokens (codes "1 // b\n\n2") ≡ Ok (digit_at 0 1 ∷ at 1 1 (Mark Comma) ∷ digit_at 8 2 ∷ [])
unfolding lexed
one_comma_for_a_line = refl

-- and none after these tokens, nor at the start
no_comma_in_the_midst : (tokens (codes "\n1") ≡ Ok (digit_at 1 1 ∷ [])) × (tokens (codes "a:\n1") ≡ Ok (name_at 0 (codes "a") ∷ mark_at 1 Colon ∷ digit_at 3 1 ∷ [])) × (tokens (codes "{\n1,\n") ≡ Ok (mark_at 0 OpenBrace ∷ digit_at 2 1 ∷ mark_at 3 Comma ∷ []))
unfolding lexed
no_comma_in_the_midst = (refl, refl, refl)

a_carriage_return_breaks_no_line : tokens (codes "1\r2") ≡ Ok (digit_at 0 1 ∷ digit_at 2 2 ∷ [])
unfolding lexed
a_carriage_return_breaks_no_line = refl

tokens_that_end_a_line : (ends_line (Name (codes "a")) ≡ true) × (ends_line (Definition (codes "#A")) ≡ true) × (ends_line (Hidden (codes "_")) ≡ true) × (ends_line (Text []) ≡ true) × (ends_line (Integer 1) ≡ true) × (ends_line Bottom ≡ true) × (ends_line (Mark CloseParenthesis) ≡ true) × (ends_line (Mark CloseBracket) ≡ true) × (ends_line (Mark CloseBrace) ≡ true) × (ends_line (Mark Ellipsis) ≡ true) × (ends_line (Mark Question) ≡ true) × (ends_line (Mark Exclamation) ≡ true)
tokens_that_end_a_line = (refl, refl, refl, refl, refl, refl, refl, refl, refl, refl, refl, refl)

tokens_that_end_no_line : (ends_line (Mark Comma) ≡ false) × (ends_line (Mark Colon) ≡ false) × (ends_line (Mark OpenBrace) ≡ false) × (ends_line (Mark OpenBracket) ≡ false) × (ends_line (Mark Bar) ≡ false) × (ends_line (Mark Ampersand) ≡ false) × (ends_line (Mark Star) ≡ false) × (ends_line (Mark Minus) ≡ false) × (ends_line (Mark Less) ≡ false)
tokens_that_end_no_line = (refl, refl, refl, refl, refl, refl, refl, refl, refl)

a_minus_alone_is_one : (is_minus (Mark Minus) ≡ true) × (is_minus (Mark Less) ≡ false) × (is_minus (Integer 1) ≡ false)
a_minus_alone_is_one = (refl, refl, refl)

-- white space, a comment up to the line break, and tokens
what_stands_at_the_front : (lexeme false 0 (codes "\t1") ≡ Ok (Blank 1)) × (lexeme false 0 (codes "//a\nb") ≡ Ok (Blank 3)) × (lexeme false 0 (codes "\n1") ≡ Ok LineBreak) × (lexeme false 0 (codes "_|_") ≡ Ok (Word Bottom 3)) × (lexeme false 7 (codes "/a") ≡ fault BadCharacter 7)
unfolding lexed
what_stands_at_the_front = (refl, refl, refl, refl, refl)

-- a form feed, a space of no break, and a byte order mark
no_other_white_space : (tokens (49 ∷ 12 ∷ []) ≡ fault BadCharacter 1) × (tokens (49 ∷ 0xC2 ∷ 0xA0 ∷ []) ≡ fault BadCharacter 1) × (tokens (0xEF ∷ 0xBB ∷ 0xBF ∷ 49 ∷ []) ≡ fault BadCharacter 0)
unfolding lexed
no_other_white_space = (refl, refl, refl)

-- whatever stands behind it
the_first_fault_is_answered : (tokens (codes "a: 01 ; \"") ≡ fault BadNumber 3) × (tokens (codes "; 01") ≡ fault BadCharacter 0) × (tokens (codes "1 // ; \"\n\"") ≡ fault BadString 9)
unfolding lexed
the_first_fault_is_answered = (refl, refl, refl)

commas_between_lines : with_commas None (Written (digit_at 0 1) ∷ Break ∷ Break ∷ Written (digit_at 3 2) ∷ []) ≡ digit_at 0 1 ∷ at 1 1 (Mark Comma) ∷ digit_at 3 2 ∷ []
commas_between_lines = refl
