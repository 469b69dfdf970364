-- The text of a cursor.
use Rattle.std.proofs.Common.{◌≡◌, ◌≢◌, ℕ, zero, suc, ◌<◌, ◌≤◌, ◌^◌, List, [], ◌∷◌, ◌++◌, length, Option, Some, None, Result, Ok, Err, refl, sym, ◌∙◌, ap, subst, arith, get_or}
use Rattle.std.specs.Fmt.{decimal}
use Rattle.std.specs.Char.{digit_value}
use Rattle.std.specs.List.{AllByRecursion}
use Rattle.std.specs.Result.{result_ok}
use Rattle.std.proofs.lemmas.Bool.Decides.{nat_tests}
use Rattle.std.specs.Str.Parse.{AllDigits, ParsesUnsigned}
use Rattle.std.proofs.lemmas.Fmt.{decimal_is_IsNumeral, parse-decimal}
use Rattle.cue_journal.specs.declared.cursor.PieceCursor.{PieceCursor}
use Rattle.cue_journal.specs.Cursors.{cursor_text, IsDecimalOf}

pub tells : {E : Type 0} (digits : List ℕ) (r : Result ℕ E) (n : ℕ) → ParsesUnsigned 64 10 digits r → Some n ≡ result_ok r → IsDecimalOf digits n
tells digits (Ok m) n parses is =
    let same : n ≡ m = cc in
    (parses.0.0, sym parses.1 ∙ sym same)
tells digits (Err e) n parses is = absurd cc

-- no digit is `-`
no_digit : digit_value 45 < 10 → ⊥
no_digit low = omega (arith, low)

no_dash : (digits : List ℕ) → AllDigits 10 digits → (i : ℕ) → i < length digits → get_or digits i 0 ≢ 45
no_dash [] all i within = absurd (omega (arith, within))
no_dash (d ∷ digits) all zero within = λ is. no_digit (subst (λ n. digit_value n < 10) is all.0)
no_dash (d ∷ digits) all (suc i) within = no_dash digits all.1 i (omega (arith, within))

pub no_dash_in : (n : ℕ) → n < 2 ^ 64 → (i : ℕ) → i < length (decimal n) → get_or (decimal n) i 0 ≢ 45
no_dash_in n small = no_dash (decimal n) (decimal_is_IsNumeral n small).0.1

dash_at : (front rest : List ℕ) → (length front < length (front ++ 45 ∷ rest)) × (get_or (front ++ 45 ∷ rest) (length front) 0 ≡ 45)
dash_at [] rest = (omega arith, refl)
dash_at (x ∷ front) rest =
    let more = dash_at front rest in
    (omega (arith, more.0), more.1)

-- where no `-` is found, it is the text of no cursor
pub has_dash : (text : List ℕ) (run count : ℕ) → ((i : ℕ) → i < length text → get_or text i 0 ≢ 45) → text ≡ cursor_text run count → ⊥
has_dash text run count none is =
    let at = dash_at (decimal run) (decimal count) in
    subst (λ (t : List ℕ). (i : ℕ) → i < length t → get_or t i 0 ≢ 45) is none (length (decimal run)) at.0 at.1

pub read_as : {E : Type 0} (digits : List ℕ) (r : Result ℕ E) (n : ℕ) → n < 2 ^ 64 → digits ≡ decimal n → ParsesUnsigned 64 10 digits r → result_ok r ≡ Some n
read_as digits r n small is parses = ap result_ok (parse-decimal 64 n digits r small small is parses)

pub not_none : (n : ℕ) → ◌≡◌ {A = Option ℕ} (Some n) None → ⊥
not_none n e = cc

cursor_at : ℕ → ℕ → Option PieceCursor
cursor_at run count = Some (record { run = run; count = count })

pub same_cursor : (run count : ℕ) (cursor : PieceCursor) → ◌≡◌ {A = Option ℕ} (Some run) (Some cursor.run) → ◌≡◌ {A = Option ℕ} (Some count) (Some cursor.count)
    → ◌≡◌ {A = Option PieceCursor} (Some (record { run = run; count = count })) (Some cursor)
unfolding cursor_at
same_cursor run count cursor a b =
    let run_is : run ≡ cursor.run = cc in
    let count_is : count ≡ cursor.count = cc in
    ap (λ (n : ℕ). cursor_at n count) run_is ∙ ap (λ (n : ℕ). cursor_at cursor.run n) count_is

-- a digit, or `-`
abbrev pub IsPlain : ℕ → Type 0
IsPlain byte = (45 ≤ byte) × (byte ≤ 57)

plain_digit : (d : ℕ) → digit_value d < 10 → IsPlain d
plain_digit d low = grind (arith, nat_tests)

plain_digits : (digits : List ℕ) → AllDigits 10 digits → AllByRecursion IsPlain digits
plain_digits [] all = tt
plain_digits (d ∷ digits) all = (plain_digit d all.0, plain_digits digits all.1)

with_dash : (front rest : List ℕ) → AllByRecursion IsPlain front → AllByRecursion IsPlain rest → AllByRecursion IsPlain (front ++ 45 ∷ rest)
with_dash [] rest all more = ((omega arith, omega arith), more)
with_dash (x ∷ front) rest all more = (all.0, with_dash front rest all.1 more)

pub plain_text : (run count : ℕ) → run < 2 ^ 64 → count < 2 ^ 64 → AllByRecursion IsPlain (cursor_text run count)
plain_text run count small less =
    with_dash (decimal run) (decimal count) (plain_digits (decimal run) (decimal_is_IsNumeral run small).0.1) (plain_digits (decimal count) (decimal_is_IsNumeral count less).0.1)
