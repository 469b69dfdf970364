-- The inside of a string, element by element.
use Rattle.std.proofs.Common.{◌≡◌, ◌≢◌, ℕ, zero, suc, ◌+◌, ◌-◌, ◌<◌, ◌≤◌, ◌∙◌, ◌⊎◌, inl, inr, List, [], ◌∷◌, ◌++◌, length, take, drop, get_or, get_or-drop, take_all, drop-drop, lit<, nat_le, Some, None, Ok, Err, refl, sym, ap, subst, arith, add-zero, append_assoc, IsUtf8, length-append, length-drop, ⊎_elim, if◌then◌else◌}
use Rattle.std.specs.Prelude.{Result, encode_utf8}
use Rattle.std.specs.Char.{len_utf8}
use Rattle.std.specs.Str.{IsCharBoundary}
use Rattle.std.proofs.str.Laws.{order}
use Rattle.std.proofs.lemmas.Bool.{ne_eqb, lt-leb, cases_Bool, leb-true, leb-false}
use Rattle.std.proofs.lemmas.List.{append-nil}
use Rattle.std.proofs.lemmas.Str.{inside_one, length-encode, drop_past_char, IsCharBoundary-after_ascii}
use Rattle.cue_lattice.specs.declared.refusal.Refusal.{Refusal}
use Rattle.cue_lattice.specs.Limits.{word_limit}
use Rattle.cue_lex.specs.Strings.{body, with_front, with_escape, bad_string, escape_sequence}
use Rattle.cue_lex.specs.Lexemes.{within_text_limit, EndsAscii}

-- no bytes in front change nothing
pub with_front-nil : (r : Result (List ℕ × ℕ) Refusal) → with_front [] r ≡ r
with_front-nil (Ok found) = refl
with_front-nil (Err refusal) = refl

-- bytes put in front of what has others in front are in front with them
pub with_front-append : (xs ys : List ℕ) (r : Result (List ℕ × ℕ) Refusal) → with_front xs (with_front ys r) ≡ with_front (xs ++ ys) r
with_front-append xs ys (Ok (text, end)) = ap (λ all. Ok (all, end)) (sym (append_assoc xs ys text))
with_front-append xs ys (Err refusal) = refl

-- bytes that still belong to an escape are passed
pub body-inside : (start inside place : ℕ) (bytes : List ℕ) → inside ≤ length bytes → body start inside place bytes ≡ body start 0 (place + inside) (drop inside bytes)
body-inside start zero place bytes within = ap (λ n. body start 0 n bytes) (sym (add-zero place))
body-inside start (suc inside) place [] within = absurd (omega arith)
body-inside start (suc inside) place (b ∷ bytes) within =
    let e : place + 1 + inside ≡ place + suc inside = omega arith in
    body-inside start inside (place + 1) bytes (omega arith) ∙ ap (λ n. body start 0 n (drop inside bytes)) e

-- a byte that stands for itself
pub record IsRaw (b : ℕ) : Type 0 where
  pub no_quote : b ≢ 34
  pub no_break : b ≢ 10
  pub no_backslash : b ≢ 92

body-raw : (start place b : ℕ) (bytes : List ℕ) → IsRaw b → body start 0 place (b ∷ bytes) ≡ with_front (b ∷ []) (body start 0 (place + 1) bytes)
body-raw start place b bytes raw =
    let quote = ne_eqb b 34 raw.no_quote in
    let line = ne_eqb b 10 raw.no_break in
    let backslash = ne_eqb b 92 raw.no_backslash in
    rw (quote, line, backslash) refl

-- bytes that stand for themselves come before what the bytes after them stand for
pub body-raws : (start place : ℕ) (xs rest : List ℕ) → ((k : ℕ) → k < length xs → IsRaw (get_or xs k 0)) → body start 0 place (xs ++ rest) ≡ with_front xs (body start 0 (place + length xs) rest)
body-raws start place [] rest raw = sym (with_front-nil _ ∙ ap (λ n. body start 0 n rest) (add-zero place))
body-raws start place (x ∷ xs) rest raw =
    let e : place + 1 + length xs ≡ place + length (x ∷ xs) = omega arith in
    body-raw start place x (xs ++ rest) (raw 0 (omega arith))
    ∙ ap (with_front (x ∷ [])) (body-raws start (place + 1) xs rest (λ k below. raw (suc k) (omega arith)))
    ∙ with_front-append (x ∷ []) xs _
    ∙ ap (λ n. with_front (x ∷ xs) (body start 0 n rest)) e

-- a character stands for itself where its code does
pub body-char : (start place c : ℕ) (bytes rest : List ℕ) → bytes ≡ encode_utf8 c ++ rest → IsRaw c → body start 0 place bytes ≡ with_front (encode_utf8 c) (body start 0 (place + length (encode_utf8 c)) rest)
body-char start place c bytes rest split raw =
    ap (body start 0 place) split
    ∙ body-raws start place (encode_utf8 c) rest
    (λ k below.
    ⊎_elim
    (λ ascii. subst IsRaw (inside_one c [] (encode_utf8 c) k (sym (append-nil (encode_utf8 c))) below ascii) raw)
    (λ high. record { no_quote = λ e. absurd (omega arith); no_break = λ e. absurd (omega arith); no_backslash = λ e. absurd (omega arith) })
    (order (get_or (encode_utf8 c) k 0) 128))

-- a character that stands for itself comes before what the bytes after it stand for
pub char_element : (text rest : List ℕ) (c width : ℕ) → text ≡ encode_utf8 c ++ rest → width ≡ len_utf8 c → IsRaw c → (start place : ℕ) → body start 0 place text ≡ with_front (encode_utf8 c) (body start 0 (place + width) (drop width text))
char_element text rest c width split is_width raw start place =
    let size : length (encode_utf8 c) ≡ width = length-encode c ∙ sym is_width in
    let all : 0 + len_utf8 c ≡ width = omega arith in
    let left : drop width text ≡ rest = subst (λ n. drop n text ≡ rest) all (drop_past_char text rest 0 c split) in
    body-char start place c text rest split raw ∙ rw (size, left) refl

-- the character of an escape comes before what the bytes after the escape stand for
pub escape_element : (text : List ℕ) (c width : ℕ) → 0 < length text → get_or text 0 0 ≡ 92 → escape_sequence (drop 1 text) ≡ Some (c, width) → width ≤ length (drop 1 text) → (start place : ℕ) → body start 0 place text ≡ with_front (encode_utf8 c) (body start 0 (place + (1 + width)) (drop (1 + width) text))
escape_element [] c width some is_backslash found within start place = absurd (omega arith)
escape_element (b ∷ bytes) c width some is_backslash found within start place =
    let e : place + 1 + width ≡ place + (1 + width) = omega arith in
    let d : suc width ≡ 1 + width = omega arith in
    ap (λ x. body start 0 place (x ∷ bytes)) is_backslash
    ∙ ap (λ r. with_escape place r (λ w. body start w (place + 1) bytes)) found
    ∙ ap (with_front (encode_utf8 c)) (body-inside start width (place + 1) bytes within)
    ∙ ap (λ n. with_front (encode_utf8 c) (body start 0 n (drop width bytes))) e
    ∙ ap (λ n. with_front (encode_utf8 c) (body start 0 (place + (1 + width)) (drop n (b ∷ bytes)))) d

-- a backslash with no escape makes the string a bad one at its place
pub bad_element : (text : List ℕ) → 0 < length text → get_or text 0 0 ≡ 92 → escape_sequence (drop 1 text) ≡ None → (start place : ℕ) → body start 0 place text ≡ Err (bad_string place)
bad_element [] some is_backslash none start place = absurd (omega arith)
bad_element (b ∷ bytes) some is_backslash none start place =
    ap (λ x. body start 0 place (x ∷ bytes)) is_backslash
    ∙ ap (λ r. with_escape place r (λ w. body start w (place + 1) bytes)) none

-- The first len bytes of a string's inside stand for whole, and rest is what is left. What was decoded is whole, or both
-- are too long.
pub record BodySoFar (start : ℕ) (text decoded : List ℕ) (len : ℕ) (rest : List ℕ) : Type 0 where
  pub whole : List ℕ
  pub same : (decoded ≡ whole) ⊎ ((word_limit < length decoded) × (word_limit < length whole))
  pub within : len ≤ length text
  pub left : drop len text ≡ rest
  pub meant : body start 0 (start + 1) text ≡ with_front whole (body start 0 (start + 1 + len) rest)

-- before the first element nothing was decoded
pub body_begins : (start : ℕ) (text : List ℕ) → BodySoFar start text [] 0 text
body_begins start text = record {
  whole = [];
  same = inl refl;
  within = omega arith;
  left = refl;
  meant = sym (with_front-nil _ ∙ ap (λ n. body start 0 n text) (add-zero (start + 1)));
}

within_text_limit-same : (start : ℕ) (decoded whole : List ℕ) (end : ℕ) → (decoded ≡ whole) ⊎ ((word_limit < length decoded) × (word_limit < length whole)) → within_text_limit start (Ok (whole, end)) ≡ within_text_limit start (Ok (decoded, end))
within_text_limit-same start decoded whole end same =
    ⊎_elim
    (λ e. ap (λ text. within_text_limit start (Ok (text, end))) (sym e))
    (λ long.
    let no_whole = lt-leb (length whole) word_limit long.1 in
    let no_decoded = lt-leb (length decoded) word_limit long.0 in
    rw (no_whole, no_decoded) refl)
    same

-- one more element keeps the two alike
same_more : (decoded whole more next : List ℕ) → (decoded ≡ whole) ⊎ ((word_limit < length decoded) × (word_limit < length whole)) →
    next ≡ (if nat_le (length decoded) word_limit then decoded ++ more else decoded) →
    (next ≡ whole ++ more) ⊎ ((word_limit < length next) × (word_limit < length (whole ++ more)))
same_more decoded whole more next same is_next =
    ⊎_elim
    (λ short.
    let e : next ≡ decoded ++ more = is_next ∙ rw short refl in
    ⊎_elim (λ alike. inl (e ∙ ap (λ xs. xs ++ more) alike)) (λ long. absurd (omega (arith, leb-true (length decoded) word_limit short, long.0))) same)
    (λ long.
    let e : next ≡ decoded = is_next ∙ rw long refl in
    let over = leb-false (length decoded) word_limit long in
    let size = ap length e in
    inr (omega (arith, over, size), ⊎_elim (λ alike. let sizes = ap length alike in omega (arith, over, length-append whole more)) (λ both. let w = both.1 in omega (arith, length-append whole more)) same))
    (cases_Bool (nat_le (length decoded) word_limit))

-- a quote closes a string
pub body-close : (start place : ℕ) (bytes : List ℕ) → 0 < length bytes → get_or bytes 0 0 ≡ 34 → body start 0 place bytes ≡ Ok ([], place + 1)
body-close start place [] some quote = absurd (omega arith)
body-close start place (b ∷ bytes) some quote = ap (λ x. body start 0 place (x ∷ bytes)) quote

body-break : (start place : ℕ) (bytes : List ℕ) → 0 < length bytes → get_or bytes 0 0 ≡ 10 → body start 0 place bytes ≡ Err (bad_string start)
body-break start place [] some line = absurd (omega arith)
body-break start place (b ∷ bytes) some line = ap (λ x. body start 0 place (x ∷ bytes)) line

body-end : (start place : ℕ) (bytes : List ℕ) → length bytes ≡ 0 → body start 0 place bytes ≡ Err (bad_string start)
body-end start place [] none = refl
body-end start place (b ∷ bytes) none = absurd (omega arith)

module _ {start : ℕ} {text decoded : List ℕ} {len : ℕ} {rest : List ℕ} (so_far : BodySoFar start text decoded len rest) where
  pub body_next : (c width : ℕ) (next : List ℕ) → width ≤ length rest →
      ((first place : ℕ) → body first 0 place rest ≡ with_front (encode_utf8 c) (body first 0 (place + width) (drop width rest))) →
      next ≡ (if nat_le (length decoded) word_limit then decoded ++ encode_utf8 c else decoded) →
      BodySoFar start text next (len + width) (drop width rest)
  body_next c width next within element is_next =
      let left_len = ap length so_far.left in
      let e : start + 1 + len + width ≡ start + 1 + (len + width) = omega arith in
      record {
        whole = so_far.whole ++ encode_utf8 c;
        same = same_more decoded so_far.whole (encode_utf8 c) next so_far.same is_next;
        within = omega (arith, length-drop len text, so_far.within);
        left = sym (drop-drop width len text) ∙ ap (drop width) so_far.left;
        meant = so_far.meant ∙ ap (with_front so_far.whole) (element start (start + 1 + len)) ∙ with_front-append so_far.whole (encode_utf8 c) _ ∙ ap (λ n. with_front (so_far.whole ++ encode_utf8 c) (body start 0 n (drop width rest))) e;
      }

  pub body_closes : 0 < length rest → get_or rest 0 0 ≡ 34 → within_text_limit start (body start 0 (start + 1) text) ≡ within_text_limit start (Ok (decoded, start + 1 + (len + 1)))
  body_closes some quote =
      let e : start + 1 + len + 1 ≡ start + 1 + (len + 1) = omega arith in
      ap (within_text_limit start) (so_far.meant ∙ ap (with_front so_far.whole) (body-close start (start + 1 + len) rest some quote) ∙ ap (λ xs. Ok (xs, start + 1 + len + 1)) (append-nil so_far.whole) ∙ ap (λ n. Ok (so_far.whole, n)) e)
      ∙ within_text_limit-same start decoded so_far.whole (start + 1 + (len + 1)) so_far.same

  pub body_fails : (refusal : Refusal) → body start 0 (start + 1 + len) rest ≡ Err refusal → body start 0 (start + 1) text ≡ Err refusal
  body_fails refusal fault = so_far.meant ∙ ap (with_front so_far.whole) fault

  pub body_breaks : 0 < length rest → get_or rest 0 0 ≡ 10 → body start 0 (start + 1) text ≡ Err (bad_string start)
  body_breaks some line = body_fails _ (body-break start (start + 1 + len) rest some line)

  pub body_ends : length rest ≡ 0 → body start 0 (start + 1) text ≡ Err (bad_string start)
  body_ends none = body_fails _ (body-end start (start + 1 + len) rest none)

  pub body_ascii : 0 < length rest → get_or rest 0 0 ≡ 34 → EndsAscii text (len + 1)
  body_ascii some quote =
      let left_len = ap length so_far.left in
      let back : len + 1 - 1 ≡ len = omega arith in
      let at : get_or text (len + 0) 0 ≡ 34 = sym (get_or-drop len text 0 0) ∙ ap (λ xs. get_or xs 0 0) so_far.left ∙ quote in
      let e : len + 1 - 1 ≡ len + 0 = omega arith in
      record {
        some = omega arith;
        within = omega (arith, length-drop len text);
        ascii = subst (λ n. n < 128) (sym (ap (λ i. get_or text i 0) e ∙ at)) (lit< tt);
      }

-- a text may be cut after an escape, since its last byte is ASCII
pub escape_boundary : (text : List ℕ) (width : ℕ) → IsUtf8 text → EndsAscii (drop 1 text) width → IsCharBoundary text (1 + width)
escape_boundary text width utf8 ends =
    let size = length-drop 1 text in
    let within : width < length text = omega (arith, ends.within, ends.some) in
    let e : 1 + (width - 1) ≡ width = omega (arith, ends.some) in
    let last : get_or text width 0 < 128 = subst (λ n. n < 128) (get_or-drop 1 text (width - 1) 0 ∙ ap (λ i. get_or text i 0) e) ends.ascii in
    let d : width + 1 ≡ 1 + width = omega arith in
    subst (IsCharBoundary text) d (IsCharBoundary-after_ascii text width utf8 within last)

-- the bytes after the first one, as a range of a slice has them
pub behind_first : (text bytes : List ℕ) → bytes ≡ text → take (length bytes - 1) (drop 1 bytes) ≡ drop 1 text
behind_first text bytes same =
    let size = length-drop 1 bytes in
    take_all (length bytes - 1) (drop 1 bytes) (omega (arith, size)) ∙ ap (drop 1) same
