-- Integers of few decimal digits.
use Rattle.std.proofs.Common.{◌≡◌, ℕ, zero, suc, ◌+◌, ◌-◌, ◌*◌, ◌^◌, ◌<◌, ◌≤◌, ◌∙◌, ◌||◌, Bool, true, false, List, [], ◌∷◌, length, take, drop, get_or, refl, ap, sym, subst, min, arith, rules}
use Rattle.std.specs.Prelude.{Option, Some, None, nat_eq, nat_lt, nat_le, if◌then◌else◌}
use Rattle.std.specs.List.{fold}
use Rattle.std.specs.Option.{option_map}
use Rattle.std.specs.Char.{digit_value, is_ascii_digit}
use Rattle.std.proofs.lemmas.Bool.{eqb-true, le-ltb, lt-ltb, ltb-true, and_parts, leb-true}
use Rattle.unicode.proofs.Facts.{Stepped-below}
use Rattle.unicode.specs.GeneralCategory.{general_category}
use Rattle.unicode.proofs.CategoryComputing.{ucd_category}
use Rattle.unicode.proofs.GeneralCategoryLemmas.{general_category_stepped}
use Rattle.std.proofs.Math.Nat.{le_refl, pow-suc}
use Rattle.std.proofs.Math.Seq.{take-length, drop-length}
use Rattle.cue_lex.specs.Inner.Integers.{digit}
use Rattle.cue_lex.specs.Integers.{are_digits, literal_number, digits_number, with_digit}

abbrev is_number : Option ℕ → ℕ → Bool
is_number None n = false
is_number (Some a) n = nat_eq a n

is_number-same : (found : Option ℕ) (n : ℕ) → is_number found n ≡ true → found ≡ Some n
is_number-same None n is = search rules
is_number-same (Some a) n is = ap Some (eqb-true a n is)

digit_test : (d : ℕ) → d < 58 → (nat_lt d 48 || is_number (literal_number (d ∷ [])) (d - 48)) ≡ true
unfolding ucd_category literal_number digits_number
digit_test d below = Stepped-below general_category general_category_stepped (λ x v. nat_lt x 48 || is_number (literal_number (x ∷ [])) (x - 48)) 58 refl d below

not_below : (test found : Bool) → test ≡ false → (test || found) ≡ true → found ≡ true
not_below true found fails is = cc
not_below false found fails is = is

-- a digit alone spells itself
pub one_digit : (literal : List ℕ) → length literal ≡ 1 → 48 ≤ get_or literal 0 0 → get_or literal 0 0 ≤ 57 → literal_number literal ≡ Some (get_or literal 0 0 - 48)
one_digit [] one low high = absurd (omega arith)
one_digit (d ∷ []) one low high =
    let no : nat_lt d 48 ≡ false = le-ltb d 48 low in
    is_number-same _ _ (not_below (nat_lt d 48) _ no (digit_test d (omega arith)))
one_digit (d ∷ e ∷ more) one low high = absurd (omega arith)

-- and is below the greatest number that is told
pub one_digit_min : (literal : List ℕ) → length literal ≡ 1 → is_ascii_digit (get_or literal 0 0) ≡ true
    → Some (get_or literal 0 0 - 48) ≡ option_map (λ n. min n 0xffff_ffff_ffff_ffff) (literal_number literal)
one_digit_min literal one digit =
    let parts = and_parts (nat_le 48 (get_or literal 0 0)) (nat_le (get_or literal 0 0) 57) digit in
    let low = leb-true 48 (get_or literal 0 0) parts.0 in
    let high = leb-true (get_or literal 0 0) 57 parts.1 in
    let least : get_or literal 0 0 - 48 ≡ min (get_or literal 0 0 - 48) 0xffff_ffff_ffff_ffff = omega arith in
    ap Some least ∙ sym (ap (option_map (λ n. min n 0xffff_ffff_ffff_ffff)) (one_digit literal one low high))

-- powers of ten rise
tens_rise : (k i : ℕ) → 10 ^ i ≤ 10 ^ (k + i)
tens_rise zero i = let none : 0 + i ≡ i = omega arith in subst (λ n. 10 ^ i ≤ 10 ^ n) (sym none) (le_refl (10 ^ i))
tens_rise (suc k) i =
    let more : 10 ^ suc (k + i) ≡ 10 ^ (k + i) * 10 = pow-suc 10 (k + i) in
    let so_far = tens_rise k i in
    let next : suc (k + i) ≡ suc k + i = omega arith in
    let enough : 10 ^ i ≤ 10 ^ suc (k + i) = omega (arith, more, so_far) in
    subst (λ n. 10 ^ i ≤ 10 ^ n) next enough

up_to_18 : (i : ℕ) → i ≤ 18 → 10 ^ i ≤ 1000000000000000000
up_to_18 i few =
    let rise : 10 ^ i ≤ 10 ^ ((18 - i) + i) = tens_rise (18 - i) i in
    let all : (18 - i) + i ≡ 18 = omega arith in
    subst (λ n. 10 ^ i ≤ 10 ^ n) all rise

-- a number of fewer than 18 digits has room for one digit more
pub has_room : (value i : ℕ) → value < 10 ^ i → i < 18 → value * 10 + 9 < 0xffff_ffff_ffff_ffff
has_room value i small few =
    let more : 10 ^ suc i ≡ 10 ^ i * 10 = pow-suc 10 i in
    let most = up_to_18 (suc i) few in
    omega (arith, most, more, small)

abbrev or_zero : Option ℕ → ℕ
or_zero None = 0
or_zero (Some n) = n

digit_if : (test : Bool) (n d : ℕ) → nat_lt n 10 ≡ test → (if test then Some n else None) ≡ Some d → d < 10
digit_if true n d below is = let same : n ≡ d = ap or_zero is in subst (λ m. m < 10) same (ltb-true n 10 below)
digit_if false n d below is = search rules

-- what a decimal digit stands for
pub digit_below : (b d : ℕ) → digit 10 b ≡ Some d → d < 10
digit_below b d is = digit_if (nat_lt (digit_value b) 10) (digit_value b) d refl is

-- digits alone, of which there is one at least, spell their number
pub decimal_all : (digits : List ℕ) (value i : ℕ) → 0 < length digits → i ≡ length digits → value ≡ fold (with_digit 10) 0 (take i digits)
    → are_digits 10 false digits ≡ are_digits 10 (nat_lt 0 i) (drop i digits) → value < 10 ^ i → i ≤ 18
    → Some value ≡ option_map (λ n. min n 0xffff_ffff_ffff_ffff) (digits_number 10 digits)
unfolding digits_number
decimal_all digits value i some end number spelled small few =
    let all : take i digits ≡ digits = ap (λ n. take n digits) end ∙ take-length digits in
    let none : drop i digits ≡ [] = ap (λ n. drop n digits) end ∙ drop-length digits in
    let is : value ≡ fold (with_digit 10) 0 digits = number ∙ ap (fold (with_digit 10) 0) all in
    let right : are_digits 10 false digits ≡ true = spelled ∙ ap (are_digits 10 (nat_lt 0 i)) none ∙ lt-ltb 0 i (omega (arith, some, end)) in
    let most = up_to_18 i few in
    let least : value ≡ min value 0xffff_ffff_ffff_ffff = omega (arith, small, most) in
    rw right (ap Some (least ∙ ap (λ n. min n 0xffff_ffff_ffff_ffff) is))
