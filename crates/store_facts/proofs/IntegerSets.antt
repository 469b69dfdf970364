-- Sets of integers as pieces: what they have, and which are in their one form.
use Rattle.std.proofs.Common.{◌≡◌, ℤ, pos, negsuc, List, [], ◌∷◌, true, false, refl, sym, arith, lit<}
use Rattle.std.proofs.lemmas.Bool.{false≢true}
use Rattle.std.proofs.lemmas.Int.{ints}
use Rattle.cue_sets.specs.Pieces.{is_member, IsCanonical, is_int64, RefusesInteger, least, greatest}
use Rattle.store_facts.proofs.Base.{in_range}

-- from 1 to 3, and from 5 to 9
abbrev two_pieces : List (ℤ × ℤ)
two_pieces = (pos 1, pos 3) ∷ (pos 5, pos 9) ∷ []

both_ends_are_members : (is_member two_pieces (pos 1) ≡ true) × (is_member two_pieces (pos 3) ≡ true)
    × (is_member two_pieces (pos 5) ≡ true) × (is_member two_pieces (pos 9) ≡ true)
both_ends_are_members = (refl, refl, refl, refl)

what_is_left_out_is_no_member : (is_member two_pieces (pos 0) ≡ false) × (is_member two_pieces (pos 4) ≡ false)
    × (is_member two_pieces (pos 10) ≡ false) × (is_member two_pieces (negsuc 0) ≡ false)
what_is_left_out_is_no_member = (refl, refl, refl, refl)

no_piece_has_no_member : is_member [] (pos 0) ≡ false
no_piece_has_no_member = refl

pieces_apart_are_the_one_form : IsCanonical two_pieces
pieces_apart_are_the_one_form =
    (omega (arith, ints), omega (arith, ints), omega (arith, ints), (omega (arith, ints), omega (arith, ints), omega (arith, ints), tt))

-- 1 to 3 and 4 to 9 are written 1 to 9
touching_pieces_are_not : IsCanonical ((pos 1, pos 3) ∷ (pos 4, pos 9) ∷ []) → ⊥
touching_pieces_are_not h = omega (arith, ints, h.3.0)

overlapping_pieces_are_not : IsCanonical ((pos 1, pos 5) ∷ (pos 4, pos 9) ∷ []) → ⊥
overlapping_pieces_are_not h = omega (arith, ints, h.3.0)

falling_pieces_are_not : IsCanonical ((pos 5, pos 9) ∷ (pos 1, pos 3) ∷ []) → ⊥
falling_pieces_are_not h = omega (arith, ints, h.3.0)

an_empty_piece_is_not : IsCanonical ((pos 3, pos 1) ∷ []) → ⊥
an_empty_piece_is_not h = omega (arith, ints, h.1)

no_piece_is : IsCanonical []
no_piece_is = tt

one_integer_is : IsCanonical ((negsuc 4, negsuc 4) ∷ [])
one_integer_is = (omega (arith, ints), omega (arith, ints), omega (arith, ints), tt)

all_integers_are : IsCanonical ((negsuc 9223372036854775807, pos 9223372036854775807) ∷ [])
all_integers_are = (omega (arith, ints), omega (arith, ints), omega (arith, ints), tt)

an_integer_of_65_bits_is_not : IsCanonical ((pos 0, pos 9223372036854775808) ∷ []) → ⊥
an_integer_of_65_bits_is_not h = omega (arith, ints, h.2)

none_below_the_least_is : IsCanonical ((negsuc 9223372036854775808, pos 0) ∷ []) → ⊥
none_below_the_least_is h = omega (arith, ints, h.0)

-- -2^63 and 2^63 - 1
the_least_and_the_greatest : (least ≡ negsuc 9223372036854775807) × (greatest ≡ pos 9223372036854775807)
the_least_and_the_greatest = (refl, refl)

integers_of_64_bits : (is_int64 (negsuc 9223372036854775807) ≡ true) × (is_int64 (pos 9223372036854775807) ≡ true)
    × (is_int64 (negsuc 9223372036854775808) ≡ false) × (is_int64 (pos 9223372036854775808) ≡ false)
integers_of_64_bits = (refl, refl, refl, refl)

a_set_refuses_what_it_lacks : RefusesInteger two_pieces (pos 4)
a_set_refuses_what_it_lacks = (in_range 4 (lit< tt), refl)

a_set_refuses_no_member : RefusesInteger two_pieces (pos 5) → ⊥
a_set_refuses_no_member h = false≢true (sym h.1)

a_set_refuses_no_number_that_is_none_of_the_language : RefusesInteger two_pieces (pos 9223372036854775808) → ⊥
a_set_refuses_no_number_that_is_none_of_the_language h = omega (arith, ints, h.0.1)
