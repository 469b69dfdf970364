-- Strings: the texts that they stand for, and their faults.
use Rattle.std.proofs.Common.{◌≡◌, [], ◌∷◌, None, Some, Ok, refl}
use Rattle.std.specs.Prelude.{codes}
use Rattle.cue_lattice.specs.declared.refusal.Kind.TheVariants.{BadString}
use Rattle.cue_lex.specs.declared.token.TokenKind.TheVariants.{Text}
use Rattle.cue_lex.specs.Strings.{simple_escape, four_digits, eight_digits, short_escape, escape_sequence, string_text}
use Rattle.cue_lex.specs.Tokens.{tokens}
use Rattle.text_facts.proofs.OnLiterals.{lexed}
use Rattle.text_facts.proofs.Spelt.{at, fault}

-- \a \b \f \n \r \t \v \/ \\ \", by the letter after the backslash
each_simple_escape : (simple_escape 97 ≡ Some 7) × (simple_escape 98 ≡ Some 8) × (simple_escape 102 ≡ Some 12) × (simple_escape 110 ≡ Some 10) × (simple_escape 114 ≡ Some 13) × (simple_escape 116 ≡ Some 9) × (simple_escape 118 ≡ Some 11) × (simple_escape 47 ≡ Some 47) × (simple_escape 92 ≡ Some 92) × (simple_escape 34 ≡ Some 34)
unfolding lexed
each_simple_escape = (refl, refl, refl, refl, refl, refl, refl, refl, refl, refl)

-- \' \0 \( \N \x
no_other_escape : (escape_sequence (codes "'") ≡ None) × (escape_sequence (codes "0") ≡ None) × (escape_sequence (codes "(a)") ≡ None) × (escape_sequence (codes "N") ≡ None) × (escape_sequence (codes "x41") ≡ None) × (escape_sequence [] ≡ None)
unfolding lexed
no_other_escape = (refl, refl, refl, refl, refl, refl)

-- \u00e9 and \u00E9, \U0001F600, and how many bytes stand after the backslash
by_number : (escape_sequence (codes "u00e9") ≡ Some (0xE9, 5)) × (escape_sequence (codes "u00E9f") ≡ Some (0xE9, 5)) × (escape_sequence (codes "U0001F600") ≡ Some (0x1F600, 9)) × (escape_sequence (codes "n") ≡ Some (10, 1))
unfolding lexed
by_number = (refl, refl, refl, refl)

all_digits_are_wanted : (escape_sequence (codes "u12") ≡ None) × (escape_sequence (codes "u12g4") ≡ None) × (escape_sequence (codes "U0001F60") ≡ None)
unfolding lexed
all_digits_are_wanted = (refl, refl, refl)

no_character_is_beyond : (escape_sequence (codes "U0010FFFF") ≡ Some (0x10FFFF, 9)) × (escape_sequence (codes "U00110000") ≡ None)
unfolding lexed
no_character_is_beyond = (refl, refl)

-- \ud83d\ude00
a_pair_is_one_character : escape_sequence (codes "ud83d\\ude00") ≡ Some (0x1F600, 11)
unfolding lexed
a_pair_is_one_character = refl

no_surrogate_stands_alone : (escape_sequence (codes "ud83d") ≡ None) × (escape_sequence (codes "ude00") ≡ None) × (escape_sequence (codes "ud83dx\\ude00") ≡ None) × (escape_sequence (codes "ud83d\\u0041") ≡ None) × (escape_sequence (codes "ud83d\\ud83d") ≡ None) × (escape_sequence (codes "U0000D83D") ≡ None) × (escape_sequence (codes "ud83d\\U0000DE00") ≡ None)
unfolding lexed
no_surrogate_stands_alone = (refl, refl, refl, refl, refl, refl, refl)

-- "ab", "", and "a\nb" with an escape, and where each ends
texts : (tokens (codes "\"ab\"") ≡ Ok (at 0 4 (Text (codes "ab")) ∷ [])) × (tokens (codes "\"\"") ≡ Ok (at 0 2 (Text []) ∷ [])) × (tokens (codes "\"a\\nb\"") ≡ Ok (at 0 6 (Text (codes "a\nb")) ∷ []))
unfolding lexed
texts = (refl, refl, refl)

-- \" and // in it, and \u00e9 as two bytes
texts_with_escapes : (tokens (codes "\"\\\"//\"") ≡ Ok (at 0 6 (Text (codes "\"//")) ∷ [])) × (tokens (codes "\"\\u00e9\"") ≡ Ok (at 0 8 (Text (0xC3 ∷ 0xA9 ∷ [])) ∷ []))
unfolding lexed
texts_with_escapes = (refl, refl)

-- a tab, a carriage return and é stand for themselves
characters_as_they_are : tokens (34 ∷ 9 ∷ 13 ∷ 0xC3 ∷ 0xA9 ∷ 34 ∷ []) ≡ Ok (at 0 6 (Text (9 ∷ 13 ∷ 0xC3 ∷ 0xA9 ∷ [])) ∷ [])
unfolding lexed
characters_as_they_are = refl

a_string_without_an_end_is_at_its_quote : (tokens (codes "a: \"b") ≡ fault BadString 3) × (tokens (codes "a: \"b\n\"") ≡ fault BadString 3) × (tokens (codes "a: \"") ≡ fault BadString 3)
unfolding lexed
a_string_without_an_end_is_at_its_quote = (refl, refl, refl)

a_bad_escape_is_at_its_backslash : (tokens (codes "a: \"b\\q\"") ≡ fault BadString 5) × (tokens (codes "\"\\") ≡ fault BadString 1) × (tokens (codes "\"a\\\n\"") ≡ fault BadString 2) × (tokens (codes "\"\\ud83d\"") ≡ fault BadString 1) × (tokens (codes "\"\\(a)\"") ≡ fault BadString 1)
unfolding lexed
a_bad_escape_is_at_its_backslash = (refl, refl, refl, refl, refl)

-- a bad escape of a string that has no end
the_first_fault_of_a_string : (tokens (codes "\"a\\q") ≡ fault BadString 2) × (tokens (codes "\"a\n\\q\"") ≡ fault BadString 0)
unfolding lexed
the_first_fault_of_a_string = (refl, refl)

three_quotes_are_none : (tokens (codes "\"\"\"") ≡ fault BadString 0) × (tokens (codes "a: \"\"\"\nb\n\"\"\"") ≡ fault BadString 3)
unfolding lexed
three_quotes_are_none = (refl, refl)

-- the text of a string whose quote is at 5, and the place behind its end
a_string_at_a_place : string_text 5 (codes "a\\tb\" c") ≡ Ok (codes "a\tb", 11)
unfolding lexed
a_string_at_a_place = refl

digits_of_escapes : (four_digits (codes "00fF1") ≡ Some 255) × (four_digits (codes "00f") ≡ None) × (eight_digits (codes "0010ffff") ≡ Some 0x10FFFF) × (short_escape (codes "0041") ≡ Some (65, 5))
unfolding lexed
digits_of_escapes = (refl, refl, refl, refl)
