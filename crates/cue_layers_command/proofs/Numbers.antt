-- Numbers that arguments say.
use Rattle.std.proofs.Common.{◌≡◌, ℕ, ◌^◌, ◌<◌, ◌≤◌, Bool, true, false, List, [], length, Some, None, Result, Ok, Err, OkIff, refl, ap, arith, rules, nat_le}
use Rattle.std.specs.Result.{result_ok}
use Rattle.std.specs.Char.{is_ascii_digit}
use Rattle.std.specs.List.{list_all}
use Rattle.std.specs.Str.Parse.{digits_value, ParsesUnsigned}
use Rattle.std.proofs.lemmas.Bool.{eqb-false, le-leb, leb-true}
use Rattle.std.proofs.lemmas.Str.Parse.{IsNumeralModel, numerals_by_value, parse_digits}
use Rattle.clap.specs.Walk.{is_empty}
use Rattle.cue_layers_command.specs.Words.{most_rows, rows_of_arguments}

own : IsNumeralModel (λ ds. list_all is_ascii_digit ds ≡ true) (digits_value 10)
own = numerals_by_value (λ ds. list_all is_ascii_digit ds ≡ true) (search rules)

-- digits are read as the number that they say, where it has 64 bits at most
pub rows_are :
    {E : Type 0} (word : List ℕ) (r : Result ℕ E) → ParsesUnsigned 64 10 word r → list_all is_ascii_digit word ≡ true → is_empty word ≡ false
    → result_ok r ≡ rows_of_arguments word
rows_are {E} word r parsed digits some = by r (parse_digits own 64 word r parsed digits)
  where
    value : ℕ
    value = digits_value 10 word

    long : 0 < length word
    long = let e = eqb-false (length word) 0 some in omega (arith, e)

    by : (r : Result ℕ E) → OkIff r ((0 < length word) × (value < 2 ^ 64)) value → result_ok r ≡ rows_of_arguments word
    by (Ok n) h = rw (some, digits, le-leb value most_rows (omega (arith, h.0.1))) (ap (λ m. Some m) h.1)
    by (Err e) h = go (nat_le value most_rows) refl
      where
        go : (fits : Bool) → nat_le value most_rows ≡ fits → None ≡ rows_of_arguments word
        go true t = absurd (h (long, omega (arith, leb-true value most_rows t)))
        go false f = rw (some, digits, f) refl
