-- Numbers that words say.
use Rattle.std.proofs.Common.{◌≡◌, ℕ, ◌^◌, ◌<◌, ◌≤◌, Bool, true, false, ◌&&◌, List, [], ◌∷◌, length, Some, None, Result, Ok, Err, refl, sym, ◌∙◌, arith, rules, nat_le}
use Rattle.std.specs.Prelude.{if◌then◌else◌}
use Rattle.std.specs.Char.{is_ascii_digit}
use Rattle.std.specs.List.{list_all}
use Rattle.std.specs.Str.Parse.{digits_value, ParsesUnsigned}
use Rattle.std.proofs.lemmas.Bool.{and_parts, leb-true}
use Rattle.std.proofs.lemmas.Str.Parse.{IsNumeralModel, numerals_by_value, parse_gives}
use Rattle.cue_command.specs.Words.{number_in}

own : IsNumeralModel (λ ds. list_all is_ascii_digit ds ≡ true) (digits_value 10)
own = numerals_by_value (λ ds. list_all is_ascii_digit ds ≡ true) (search rules)

apart : {E : Type 0} (n : ℕ) (e : E) → Ok n ≡ Err e → ⊥
apart n e h = cc

some_digits : (word : List ℕ) → 1 ≤ digits_value 10 word → 0 < length word
some_digits [] h = absurd (omega (arith, h))
some_digits (c ∷ cs) h = omega arith

-- digits that are no number of 16 bits say none
pub no_number :
    {E : Type 0} (most : ℕ) (word : List ℕ) (r : Result ℕ E) (e : E) → r ≡ Err e → ParsesUnsigned 16 10 word r
    → list_all is_ascii_digit word ≡ true → most < 2 ^ 16 → None ≡ number_in most word
no_number {E} most word r e is parsed digits less = rw digits (go (nat_le 1 n && nat_le n most) refl)
  where
    n : ℕ
    n = digits_value 10 word

    go : (t : Bool) → (nat_le 1 n && nat_le n most) ≡ t → None ≡ (if t then Some n else None)
    go false small = refl
    go true small =
        let both = and_parts (nat_le 1 n) (nat_le n most) small in
        let low = leb-true 1 n both.0 in
        let high = leb-true n most both.1 in
        absurd (apart n e (sym (parse_gives own 16 word r parsed digits (some_digits word low) (omega (arith, high, less))) ∙ is))
