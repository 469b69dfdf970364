-- Quoted texts at the front of a text.
use Rattle.std.proofs.Common.{◌≡◌, ◌≢◌, ℕ, ◌+◌, ◌-◌, ◌*◌, ◌/◌, ◌%◌, ◌<◌, ◌≤◌, ◌∙◌, ◌||◌, Bool, true, false, List, [], ◌∷◌, ◌++◌, length, get_or, nat_eq, nat_le, nat_lt, Some, Ok, refl, sym, ap, subst, arith, lit<, IsUtf8, append_assoc, append-nil, length-append, ⊎_elim, flat_map, if◌then◌else◌}
use Rattle.std.specs.Prelude.{◌==◌, encode_utf8, encode_utf8_all}
use Rattle.std.specs.Char.{digit_char, IsScalar}
use Rattle.std.specs.List.{starts_with}
use Rattle.std.specs.Str.{chars, all_scalars}
use Rattle.std.proofs.lemmas.Bool.{eqb-true, eqb-false, ltb-true, lt-ltb, le-ltb, lt-leb, le-leb, ne_eqb, or_cases, and_parts, cases_Bool}
use Rattle.std.proofs.lemmas.Str.{IsUtf8-append, IsUtf8-nil, IsUtf8-encode, length-encode, len_utf8_bounds, char_from_byte, encodes-chars, scalars-chars, digit_value-digit_char}
use Rattle.cue_lattice.specs.Limits.{word_limit}
use Rattle.cue_lex.specs.declared.token.TokenKind.TheVariants as kinds
use Rattle.cue_lex.specs.declared.lexeme.Lexeme.TheVariants.{Word}
use Rattle.cue_lex.specs.Lexemes.{lexeme, string, within_text_limit}
use Rattle.cue_lex.specs.Strings.{hexadecimal, four_digits, simple_escape, short_escape, escape_sequence, with_front, body, string_text}
use Rattle.cue_lex.proofs.Bodies.{IsRaw, body-char, body-close, escape_element}
use Rattle.cue_row.specs.Quoted.{unicode_escape, char_text, quote_text}
use Rattle.print_laws.specs.Kinds.{IsTokenEnd, IsKindRead}
use Rattle.print_laws.proofs.Fronts.{one_kind, ascii_byte}
use Rattle.print_laws.proofs.Marks.{ascii_text}

-- A character of a string is written so: it comes before what the bytes behind it stand for, and it does not begin with
-- a quote.
record IsElement (c : ℕ) (text : List ℕ) : Type 0 where
  pub meant : (start place : ℕ) (bytes : List ℕ) → body start 0 place (text ++ bytes) ≡ with_front (encode_utf8 c) (body start 0 (place + length text) bytes)
  pub some : 0 < length text
  pub front : get_or text 0 0 ≢ 34
  pub utf8 : IsUtf8 text

-- an escape of one letter
letter_element : (letter c : ℕ) → letter < 128 → ((bytes : List ℕ) → escape_sequence (letter ∷ bytes) ≡ Some (c, 1)) → IsElement c (92 ∷ letter ∷ [])
letter_element letter c below is = record {
  meant = λ start place bytes. escape_element (92 ∷ letter ∷ bytes) c 1 (omega arith) refl (is bytes) (omega arith) start place;
  some = omega arith;
  front = omega arith;
  utf8 = IsUtf8-append (92 ∷ []) (letter ∷ []) (ascii_byte 92 (lit< tt)) (ascii_byte letter below);
}

quote_element : IsElement 34 (92 ∷ 34 ∷ [])
unfolding escape_sequence simple_escape
quote_element = letter_element 34 34 (lit< tt) (λ bytes. refl)

backslash_element : IsElement 92 (92 ∷ 92 ∷ [])
unfolding escape_sequence simple_escape
backslash_element = letter_element 92 92 (lit< tt) (λ bytes. refl)

break_element : IsElement 10 (92 ∷ 110 ∷ [])
unfolding escape_sequence simple_escape
break_element = letter_element 110 10 (lit< tt) (λ bytes. refl)

return_element : IsElement 13 (92 ∷ 114 ∷ [])
unfolding escape_sequence simple_escape
return_element = letter_element 114 13 (lit< tt) (λ bytes. refl)

tab_element : IsElement 9 (92 ∷ 116 ∷ [])
unfolding escape_sequence simple_escape
tab_element = letter_element 116 9 (lit< tt) (λ bytes. refl)

-- hexadecimal digits
hexadecimal_digit : (d : ℕ) → d < 16 → hexadecimal (digit_char d) ≡ Some d
hexadecimal_digit d below =
    let value = digit_value-digit_char d (omega arith) in
    let digit : nat_lt d 16 ≡ true = lt-ltb d 16 below in
    rw (value, digit) refl

digit_below : (d : ℕ) → d < 16 → digit_char d < 128
digit_below d below = ⊎_elim (λ small. rw small (omega arith)) (λ large. rw large (omega arith)) (cases_Bool (nat_lt d 10))

two_digits : (a b : ℕ) → a < 16 → b < 16 → (bytes : List ℕ) → four_digits (48 ∷ 48 ∷ digit_char a ∷ digit_char b ∷ bytes) ≡ Some (a * 0x10 + b)
unfolding four_digits
two_digits a b small least bytes =
    let high = hexadecimal_digit a small in
    let low = hexadecimal_digit b least in
    let value : 0 * 0x1000 + 0 * 0x100 + a * 0x10 + b ≡ a * 0x10 + b = omega arith in
    rw (high, low) (ap Some value)

-- the escape of a number below 256
number_escape : (c : ℕ) (bytes : List ℕ) → c < 256 → escape_sequence (117 ∷ 48 ∷ 48 ∷ digit_char (c / 16) ∷ digit_char (c % 16) ∷ bytes) ≡ Some (c, 5)
unfolding escape_sequence short_escape
number_escape c bytes below =
    let value : (c / 16) * 0x10 + c % 16 ≡ c = omega arith in
    let unit : four_digits (48 ∷ 48 ∷ digit_char (c / 16) ∷ digit_char (c % 16) ∷ bytes) ≡ Some c = two_digits (c / 16) (c % 16) (omega arith) (omega arith) bytes ∙ ap Some value in
    let no_surrogate : nat_le 0xD800 c ≡ false = lt-leb 0xD800 c (omega arith) in
    let within : nat_lt 0x10_FFFF c ≡ false = le-ltb 0x10_FFFF c (omega arith) in
    rw (unit, no_surrogate, within) refl

number_element : (c : ℕ) → c < 256 → IsElement c (unicode_escape c)
number_element c below = record {
  meant = λ start place bytes. escape_element (unicode_escape c ++ bytes) c 5 (omega arith) refl (number_escape c bytes below) (omega arith) start place;
  some = omega arith;
  front = omega arith;
  utf8 = IsUtf8-append (92 ∷ 117 ∷ 48 ∷ 48 ∷ []) (digit_char (c / 16) ∷ digit_char (c % 16) ∷ []) (ascii_text (92 ∷ 117 ∷ 48 ∷ 48 ∷ []) refl)
      (IsUtf8-append (digit_char (c / 16) ∷ []) (digit_char (c % 16) ∷ []) (ascii_byte (digit_char (c / 16)) (digit_below (c / 16) (omega arith))) (ascii_byte (digit_char (c % 16)) (digit_below (c % 16) (omega arith))));
}

-- a character that stands for itself
plain_front : (c : ℕ) (text : List ℕ) → text ≡ encode_utf8 c → 0 < length text → c ≢ 34 → get_or text 0 0 ≢ 34
plain_front c text is some other quote = other (char_from_byte text [] c (is ∙ sym (append-nil (encode_utf8 c))) (omega arith) some ∙ quote)

plain_element : (c : ℕ) → IsScalar c → IsRaw c → IsElement c (encode_utf8 c)
plain_element c scalar raw =
    let size = length-encode c in
    let width = len_utf8_bounds c in
    record {
      meant = λ start place bytes. body-char start place c (encode_utf8 c ++ bytes) bytes refl raw;
      some = omega arith;
      front = plain_front c (encode_utf8 c) refl (omega arith) raw.no_quote;
      utf8 = IsUtf8-encode c scalar;
    }

element_by : (c : ℕ) (quote slash break return tab number : Bool) → IsScalar c → (c == 0x22) ≡ quote → (c == 0x5c) ≡ slash → (c == 0x0a) ≡ break → (c == 0x0d) ≡ return → (c == 0x09) ≡ tab
    → (nat_lt c 0x20 || (c == 0x7f)) ≡ number
    → IsElement c
    (if quote then 92 ∷ 34 ∷ [] else
    (if slash then 92 ∷ 92 ∷ [] else
    (if break then 92 ∷ 110 ∷ [] else
    (if return then 92 ∷ 114 ∷ [] else
    (if tab then 92 ∷ 116 ∷ [] else
    (if number then unicode_escape c else encode_utf8 c))))))
element_by c true slash break return tab number scalar q s b r t n = subst (λ k. IsElement k (92 ∷ 34 ∷ [])) (sym (eqb-true c 34 q)) quote_element
element_by c false true break return tab number scalar q s b r t n = subst (λ k. IsElement k (92 ∷ 92 ∷ [])) (sym (eqb-true c 92 s)) backslash_element
element_by c false false true return tab number scalar q s b r t n = subst (λ k. IsElement k (92 ∷ 110 ∷ [])) (sym (eqb-true c 10 b)) break_element
element_by c false false false true tab number scalar q s b r t n = subst (λ k. IsElement k (92 ∷ 114 ∷ [])) (sym (eqb-true c 13 r)) return_element
element_by c false false false false true number scalar q s b r t n = subst (λ k. IsElement k (92 ∷ 116 ∷ [])) (sym (eqb-true c 9 t)) tab_element
element_by c false false false false false true scalar q s b r t n =
    number_element c (⊎_elim (λ small. let below = ltb-true c 0x20 small in omega arith) (λ last. let same = eqb-true c 0x7f last in omega arith) (or_cases (nat_lt c 0x20) (c == 0x7f) n))
element_by c false false false false false false scalar q s b r t n =
    plain_element c scalar (record { no_quote = eqb-false c 34 q; no_break = eqb-false c 10 b; no_backslash = eqb-false c 92 s })

-- A character between quotation marks stands for itself.
char_element : (c : ℕ) → IsScalar c → IsElement c (char_text c)
char_element c scalar = element_by c (c == 0x22) (c == 0x5c) (c == 0x0a) (c == 0x0d) (c == 0x09) (nat_lt c 0x20 || (c == 0x7f)) scalar refl refl refl refl refl refl

-- the characters of a text, and the quote that closes it
chars_body : (start place : ℕ) (cs rest : List ℕ) → all_scalars cs ≡ true → body start 0 place (flat_map char_text cs ++ (34 ∷ rest)) ≡ Ok (encode_utf8_all cs, place + length (flat_map char_text cs) + 1)
chars_body start place [] rest scalars =
    let at : place + 1 ≡ place + 0 + 1 = omega arith in
    body-close start place (34 ∷ rest) (omega arith) refl ∙ ap (λ n. Ok ([], n)) at
chars_body start place (c ∷ cs) rest scalars =
    let parts = and_parts _ (all_scalars cs) scalars in
    let element = char_element c parts.0 in
    let inside = flat_map char_text cs in
    let size = length-append (char_text c) (flat_map char_text cs) in
    let at : place + length (char_text c) + length (flat_map char_text cs) + 1 ≡ place + length (char_text c ++ flat_map char_text cs) + 1 = omega arith in
    ap (body start 0 place) (append_assoc (char_text c) (flat_map char_text cs) (34 ∷ rest))
    ∙ element.meant start place (flat_map char_text cs ++ (34 ∷ rest))
    ∙ ap (with_front (encode_utf8 c)) (chars_body start (place + length (char_text c)) cs rest parts.1)
    ∙ ap (λ n. Ok (encode_utf8 c ++ encode_utf8_all cs, n)) at

chars_utf8 : (cs : List ℕ) → all_scalars cs ≡ true → IsUtf8 (flat_map char_text cs)
chars_utf8 [] scalars = IsUtf8-nil
chars_utf8 (c ∷ cs) scalars =
    let parts = and_parts _ (all_scalars cs) scalars in
    IsUtf8-append (char_text c) (flat_map char_text cs) (char_element c parts.0).utf8 (chars_utf8 cs parts.1)

-- no three quotes stand in a row
not_quotes : (text rest : List ℕ) → 0 < length text → get_or text 0 0 ≢ 34 → starts_with nat_eq (text ++ rest) (34 ∷ 34 ∷ []) ≡ false
not_quotes [] rest some other = absurd (omega arith)
not_quotes (b ∷ text) rest some other = let differs : nat_eq 34 b ≡ false = ne_eqb 34 b (λ same. other (sym same)) in rw differs refl

one_quote : (rest : List ℕ) → IsTokenEnd rest → starts_with nat_eq (34 ∷ rest) (34 ∷ 34 ∷ []) ≡ false
one_quote [] stops = refl
one_quote (b ∷ rest) stops = rw stops.quote refl

no_quotes : (cs rest : List ℕ) → all_scalars cs ≡ true → IsTokenEnd rest → starts_with nat_eq (flat_map char_text cs ++ (34 ∷ rest)) (34 ∷ 34 ∷ []) ≡ false
no_quotes [] rest scalars stops = one_quote rest stops
no_quotes (c ∷ cs) rest scalars stops =
    let parts = and_parts _ (all_scalars cs) scalars in
    let element = char_element c parts.0 in
    ap (λ xs. starts_with nat_eq xs (34 ∷ 34 ∷ [])) (append_assoc (char_text c) (flat_map char_text cs) (34 ∷ rest))
    ∙ not_quotes (char_text c) (flat_map char_text cs ++ (34 ∷ rest)) element.some element.front

string_is : (place : ℕ) (inside text : List ℕ) (end : ℕ) → starts_with nat_eq inside (34 ∷ 34 ∷ []) ≡ false → body place 0 (place + 1) inside ≡ Ok (text, end) → string_text place inside ≡ Ok (text, end)
unfolding string_text
string_is place inside text end other is = rw other is

quote_lexeme : (minus : Bool) (place : ℕ) (inside : List ℕ) → lexeme minus place (34 ∷ inside) ≡ within_text_limit place (string_text place inside)
unfolding lexeme string
quote_lexeme minus place inside = refl

kept_is : (place end len : ℕ) (text : List ℕ) → length text ≤ word_limit → end - place ≡ len → within_text_limit place (Ok (text, end)) ≡ Ok (Word (kinds.Text text) len)
kept_is place end len text short size = let fits = le-leb (length text) word_limit short in rw fits (ap (λ n. Ok (Word (kinds.Text text) n)) size)

-- The lexeme of a quoted text, in front of any rest that cannot go on.
quoted_lexeme : (minus : Bool) (place : ℕ) (text rest : List ℕ) → IsUtf8 text → length text ≤ word_limit → IsTokenEnd rest → lexeme minus place (quote_text text ++ rest) ≡ Ok (Word (kinds.Text text) (length (quote_text text)))
quoted_lexeme minus place text rest utf8 short stops =
    let cs = chars text in
    let scalars = scalars-chars text utf8 in
    let inside = flat_map char_text (chars text) in
    let size : length (flat_map char_text (chars text) ++ (34 ∷ [])) ≡ length (flat_map char_text (chars text)) + 1 = length-append (flat_map char_text (chars text)) (34 ∷ []) in
    let len : place + 1 + length (flat_map char_text (chars text)) + 1 - place ≡ length (quote_text text) = omega arith in
    ap (λ xs. lexeme minus place (34 ∷ xs)) (append_assoc (flat_map char_text (chars text)) (34 ∷ []) rest)
    ∙ quote_lexeme minus place (flat_map char_text (chars text) ++ (34 ∷ rest))
    ∙ ap (within_text_limit place) (string_is place (flat_map char_text (chars text) ++ (34 ∷ rest)) (encode_utf8_all (chars text)) (place + 1 + length (flat_map char_text (chars text)) + 1)
    (no_quotes (chars text) rest scalars stops) (chars_body place (place + 1) (chars text) rest scalars))
    ∙ ap (λ t. within_text_limit place (Ok (t, place + 1 + length (flat_map char_text (chars text)) + 1))) (encodes-chars text utf8)
    ∙ kept_is place (place + 1 + length (flat_map char_text (chars text)) + 1) (length (quote_text text)) text short len

quoted_utf8 : (text : List ℕ) → IsUtf8 text → IsUtf8 (quote_text text)
quoted_utf8 text utf8 =
    IsUtf8-append (34 ∷ []) (flat_map char_text (chars text) ++ (34 ∷ [])) (ascii_byte 34 (lit< tt))
    (IsUtf8-append (flat_map char_text (chars text)) (34 ∷ []) (chars_utf8 (chars text) (scalars-chars text utf8)) (ascii_byte 34 (lit< tt)))

-- A quoted text is one token in front of any rest that cannot go on, and stands for the text.
pub text_read : (text : List ℕ) → IsUtf8 text → length text ≤ word_limit → IsKindRead (quote_text text) (kinds.Text text ∷ [])
text_read text utf8 short = record {
  reads = λ ended rest more stops after.
      one_kind {text = quote_text text} {rest = rest} (omega arith) (quoted_utf8 text utf8) (λ place. quoted_lexeme false place text rest utf8 short stops) after;
}
