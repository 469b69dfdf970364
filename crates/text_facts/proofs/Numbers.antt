-- Integer literals.
use Rattle.std.proofs.Common.{◌≡◌, true, false, [], ◌∷◌, None, Some, Ok, refl}
use Rattle.std.specs.Prelude.{codes}
use Rattle.cue_lattice.specs.declared.refusal.Kind.TheVariants.{BadNumber, IntRange}
use Rattle.cue_lex.specs.declared.token.TokenKind.TheVariants.{Name, Integer}
use Rattle.cue_lex.specs.declared.punctuation.Punctuation.TheVariants.{Minus}
use Rattle.cue_lex.specs.Integers.{is_literal_byte, digits_number, literal_number}
use Rattle.cue_lex.specs.Lexemes.{is_in_range, literal_len}
use Rattle.cue_lex.specs.Tokens.{tokens}
use Rattle.text_facts.proofs.OnLiterals.{lexed}
use Rattle.text_facts.proofs.Spelt.{at, mark_at, digit_at, fault}

decimal : (literal_number (codes "0") ≡ Some 0) × (literal_number (codes "7") ≡ Some 7) × (literal_number (codes "443") ≡ Some 443) × (literal_number (codes "1_000") ≡ Some 1000) × (literal_number (codes "1_2_3") ≡ Some 123)
unfolding lexed
decimal = (refl, refl, refl, refl, refl)

other_bases : (literal_number (codes "0x1F") ≡ Some 31) × (literal_number (codes "0X1f") ≡ Some 31) × (literal_number (codes "0o17") ≡ Some 15) × (literal_number (codes "0b1_01") ≡ Some 5) × (literal_number (codes "0x0") ≡ Some 0)
unfolding lexed
other_bases = (refl, refl, refl, refl, refl)

no_number_has_a_zero_in_front : (literal_number (codes "01") ≡ None) × (literal_number (codes "00") ≡ None) × (literal_number (codes "0_1") ≡ None)
unfolding lexed
no_number_has_a_zero_in_front = (refl, refl, refl)

-- a fraction, an exponent, a unit
no_number_has_other_letters : (literal_number (codes "1.5") ≡ None) × (literal_number (codes "1e3") ≡ None) × (literal_number (codes "1K") ≡ None)
unfolding lexed
no_number_has_other_letters = (refl, refl, refl)

each_underscore_is_between_digits : (literal_number (codes "1__0") ≡ None) × (literal_number (codes "1_") ≡ None) × (literal_number (codes "0x_1") ≡ None)
unfolding lexed
each_underscore_is_between_digits = (refl, refl, refl)

each_base_has_its_digits : (literal_number (codes "0x") ≡ None) × (literal_number (codes "0xG") ≡ None) × (literal_number (codes "0o8") ≡ None) × (literal_number (codes "0b2") ≡ None) × (literal_number (codes "0O7") ≡ None) × (literal_number (codes "0B1") ≡ None)
unfolding lexed
each_base_has_its_digits = (refl, refl, refl, refl, refl, refl)

digits_of_a_base : (digits_number 16 (codes "fF") ≡ Some 255) × (digits_number 10 (codes "1f") ≡ None) × (digits_number 10 [] ≡ None)
unfolding lexed
digits_of_a_base = (refl, refl, refl)

-- all ASCII letters, digits, _ and . belong to it, right or not
how_far_a_literal_goes : (literal_len (codes "1.5e3_K+1") ≡ 7) × (literal_len (codes "12 3") ≡ 2) × (is_literal_byte 46 ≡ true) × (is_literal_byte 45 ≡ false)
how_far_a_literal_goes = (refl, refl, refl, refl)

the_greatest_number : (is_in_range false 9223372036854775807 ≡ true) × (is_in_range false 9223372036854775808 ≡ false) × (is_in_range true 9223372036854775808 ≡ true) × (is_in_range true 9223372036854775809 ≡ false)
the_greatest_number = (refl, refl, refl, refl)

a_bad_number_is_at_its_first_byte : (tokens (codes "a: 01") ≡ fault BadNumber 3) × (tokens (codes "a: 1.5") ≡ fault BadNumber 3) × (tokens (codes "a: 1x") ≡ fault BadNumber 3)
unfolding lexed
a_bad_number_is_at_its_first_byte = (refl, refl, refl)

-- 1é: é is no ASCII letter
another_letter_is_a_token_of_its_own : tokens (49 ∷ 0xC3 ∷ 0xA9 ∷ []) ≡ Ok (digit_at 0 1 ∷ at 1 3 (Name (0xC3 ∷ 0xA9 ∷ [])) ∷ [])
unfolding lexed
another_letter_is_a_token_of_its_own = refl

a_number_of_65_bits : (tokens (codes "9223372036854775808") ≡ fault IntRange 0) × (tokens (codes "-9223372036854775809") ≡ fault IntRange 1)
unfolding lexed
a_number_of_65_bits = (refl, refl)

-- whatever white space stands between
the_least_number_is_behind_a_minus : (tokens (codes "-9223372036854775808") ≡ Ok (mark_at 0 Minus ∷ at 1 20 (Integer 9223372036854775808) ∷ [])) × (tokens (codes "-\n9223372036854775808") ≡ Ok (mark_at 0 Minus ∷ at 2 21 (Integer 9223372036854775808) ∷ []))
unfolding lexed
the_least_number_is_behind_a_minus = (refl, refl)

a_minus_further_in_front : tokens (codes "-a 9223372036854775808") ≡ fault IntRange 3
unfolding lexed
a_minus_further_in_front = refl
