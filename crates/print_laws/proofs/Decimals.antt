-- Decimal numbers at the front of a text.
use Rattle.std.proofs.Common.{◌≡◌, ℕ, zero, suc, ◌+◌, ◌*◌, ◌^◌, ◌<◌, ◌≤◌, ◌∙◌, Bool, true, false, List, [], ◌∷◌, ◌++◌, length, take, get_or, fold, nat_eq, nat_le, nat_lt, Some, Ok, refl, ap, arith, lit<, take_at, decimal}
use Rattle.std.specs.Prelude.{◌==◌}
use Rattle.std.specs.List.{list_all, prefix_len}
use Rattle.std.specs.Char.{digit_value}
use Rattle.std.specs.Str.Parse.{AllDigits, digits_value_after, digits_value}
use Rattle.std.proofs.lemmas.Bool.{ne_eqb, le-leb, lt-ltb}
use Rattle.std.proofs.lemmas.Fmt.{decimal_is_IsNumeral, first_decimal, IsAscii-decimal, decimal_digit}
use Rattle.std.proofs.lemmas.Str.{IsUtf8-from_ascii}
use Rattle.std.proofs.lemmas.Str.Parse.{digit_from_value}
use Rattle.cue_lex.specs.declared.token.TokenKind.{TokenKind}
use Rattle.cue_lex.specs.declared.token.TokenKind.TheVariants as kinds
use Rattle.cue_lex.specs.declared.lexeme.Lexeme.TheVariants.{Word}
use Rattle.cue_lex.specs.Integers.{is_literal_byte, are_digits, with_digit, digits_number, literal_number}
use Rattle.cue_lex.specs.Lexemes.{lexeme, integer, number, is_in_range}
use Rattle.print_laws.specs.Kinds.{HasKinds, IsTokenEnd}
use Rattle.print_laws.proofs.Fronts.{one_kind}
use Rattle.print_laws.proofs.Names.{StopsAt, prefix_all}

no_underscore : (c : ℕ) → digit_value c < 10 → (c == 95) ≡ false
no_underscore c below = let range = digit_from_value c below in ne_eqb c 95 (λ same. omega arith)

-- decimal digits are digits of a literal
are_all : (ds : List ℕ) → AllDigits 10 ds → are_digits 10 true ds ≡ true
are_all [] all = refl
are_all (c ∷ cs) all =
    let other = no_underscore c all.0 in
    let below : nat_lt (digit_value c) 10 ≡ true = lt-ltb (digit_value c) 10 all.0 in
    rw (other, below) (are_all cs all.1)

are_some : (c : ℕ) (cs : List ℕ) → AllDigits 10 (c ∷ cs) → are_digits 10 false (c ∷ cs) ≡ true
are_some c cs all =
    let other = no_underscore c all.0 in
    let below : nat_lt (digit_value c) 10 ≡ true = lt-ltb (digit_value c) 10 all.0 in
    rw (other, below) (are_all cs all.1)

-- and have the value of the number
with_more : (n c : ℕ) → digit_value c < 10 → with_digit 10 n c ≡ n * 10 + digit_value c
with_more n c below = let other = no_underscore c below in rw other refl

folded : (n : ℕ) (ds : List ℕ) → AllDigits 10 ds → fold (with_digit 10) n ds ≡ digits_value_after 10 n ds
folded n [] all = refl
folded n (c ∷ cs) all = ap (λ m. fold (with_digit 10) m cs) (with_more n c all.0) ∙ folded (n * 10 + digit_value c) cs all.1

-- digits with no zero in front spell their number
literal_digits : (ds : List ℕ) → AllDigits 10 ds → 48 < get_or ds 0 0 → literal_number ds ≡ Some (digits_value 10 ds)
unfolding literal_number digits_number
literal_digits [] all first = absurd (omega arith)
literal_digits (c ∷ cs) all first =
    let range = digit_from_value c all.0 in
    let no_zero : nat_eq 48 c ≡ false = ne_eqb 48 c (λ same. omega arith) in
    let low : nat_le 49 c ≡ true = le-leb 49 c (omega arith) in
    let high : nat_le c 57 ≡ true = le-leb c 57 (omega arith) in
    let digits = are_some c cs all in
    rw (no_zero, low, high, digits) (ap Some (folded 0 (c ∷ cs) all))

zero_literal : literal_number (48 ∷ []) ≡ Some 0
unfolding literal_number
zero_literal = refl

-- The decimal text of a number is a literal that spells it.
pub literal_decimal : (n : ℕ) → n < 2 ^ 64 → literal_number (decimal n) ≡ Some n
literal_decimal zero below = ap literal_number (decimal_digit 0 (lit< tt)) ∙ zero_literal
literal_decimal (suc n) below =
    let is = decimal_is_IsNumeral (suc n) below in
    literal_digits (decimal (suc n)) is.0.1 (first_decimal (suc n) (omega arith) below) ∙ ap Some is.1

literal_bytes : (ds : List ℕ) → AllDigits 10 ds → list_all is_literal_byte ds ≡ true
literal_bytes [] all = refl
literal_bytes (c ∷ cs) all =
    let range = digit_from_value c all.0 in
    let low : nat_le 48 c ≡ true = le-leb 48 c range.0 in
    let high : nat_le c 57 ≡ true = le-leb c 57 range.1 in
    rw (low, high) (literal_bytes cs all.1)

stops_literal : (rest : List ℕ) → IsTokenEnd rest → StopsAt is_literal_byte rest
stops_literal [] stops = tt
stops_literal (b ∷ rest) stops = stops.literal

-- where a digit stands a number does
digit_lexeme : (minus : Bool) (place d : ℕ) (bytes : List ℕ) → 48 ≤ d → d ≤ 57 → lexeme minus place (d ∷ bytes) ≡ integer minus place (d ∷ bytes)
unfolding lexeme
digit_lexeme minus place d bytes low high =
    let space = ne_eqb d 32 (λ same. omega arith) in
    let tab = ne_eqb d 9 (λ same. omega arith) in
    let return = ne_eqb d 13 (λ same. omega arith) in
    let break = ne_eqb d 10 (λ same. omega arith) in
    let quote = ne_eqb d 34 (λ same. omega arith) in
    let least : nat_le 48 d ≡ true = le-leb 48 d low in
    let most : nat_le d 57 ≡ true = le-leb d 57 high in
    rw (space, tab, return, break, quote, least, most) refl

digits_lexeme : (minus : Bool) (place : ℕ) (ds rest : List ℕ) → 0 < length ds → AllDigits 10 ds → lexeme minus place (ds ++ rest) ≡ integer minus place (ds ++ rest)
digits_lexeme minus place [] rest some all = absurd (omega arith)
digits_lexeme minus place (c ∷ cs) rest some all = let range = digit_from_value c all.0 in digit_lexeme minus place c (cs ++ rest) range.0 range.1

-- so many bytes that spell a number are that number
integer_is : (minus : Bool) (place n : ℕ) (ds rest : List ℕ) → prefix_len is_literal_byte (ds ++ rest) ≡ length ds → literal_number ds ≡ Some n → is_in_range minus n ≡ true
    → integer minus place (ds ++ rest) ≡ Ok (Word (kinds.Integer n) (length ds))
unfolding integer
integer_is minus place n ds rest len spells fits =
    let front = take_at ds rest (length ds) refl in
    ap (λ k. number minus place k (literal_number (take k (ds ++ rest)))) len
    ∙ ap (λ xs. number minus place (length ds) (literal_number xs)) front
    ∙ ap (number minus place (length ds)) spells
    ∙ rw fits refl

-- A decimal number is one token in front of any rest that cannot go on.
pub one_number : {minus ended : Bool} {n : ℕ} {rest : List ℕ} {more : List TokenKind} → n < 2 ^ 64 → is_in_range minus n ≡ true → IsTokenEnd rest → HasKinds false true rest more → HasKinds minus ended (decimal n ++ rest) (kinds.Integer n ∷ more)
one_number {minus} {ended} {n} {rest} {more} below fits stops after =
    let is = decimal_is_IsNumeral n below in
    one_kind is.0.0 (IsUtf8-from_ascii (decimal n) (IsAscii-decimal n below))
    (λ place.
    digits_lexeme minus place (decimal n) rest is.0.0 is.0.1
    ∙ integer_is minus place n (decimal n) rest (prefix_all is_literal_byte (decimal n) rest (literal_bytes (decimal n) is.0.1) (stops_literal rest stops)) (literal_decimal n below) fits)
    after
