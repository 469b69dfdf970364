-- Strings with no escape.
use Rattle.std.proofs.Common.{◌≡◌, ◌≢◌, ℕ, ◌+◌, ◌-◌, ◌<◌, ◌∙◌, true, List, ◌++◌, length, take, drop, get_or, get_or-drop, get_or-take, lit<, Ok, sym, ap, subst, arith, length-drop, length-take-le}
use Rattle.std.specs.Prelude.{not, ◌==◌, ◌&&◌}
use Rattle.std.specs.List.{prefix_len}
use Rattle.std.specs.Str.{IsCharBoundary}
use Rattle.std.proofs.lemmas.Bool.{and_parts, eq-eqb}
use Rattle.std.proofs.lemmas.List.{append-nil, take-append-drop}
use Rattle.std.proofs.lemmas.List.Sums.{prefix_len_passes}
use Rattle.std.proofs.lemmas.Str.{IsCharBoundary-before_ascii}
use Rattle.cue_lex.specs.Strings.{body, with_front}
use Rattle.cue_lex.specs.Inner.Strings.{is_plain}
use Rattle.cue_lex.specs.Lexemes.{EndsAscii}
use Rattle.cue_lex.proofs.Bodies.{IsRaw, body-raws, body-close}

not_equal : (b n : ℕ) → not (b == n) ≡ true → b ≢ n
not_equal b n differs same = let yes : (b == n) ≡ true = eq-eqb b n same in let both : not true ≡ true = subst (λ t. not t ≡ true) yes differs in cc

plain_raw : (b : ℕ) → is_plain b ≡ true → IsRaw b
plain_raw b is =
    let parts = and_parts (not (b == 34) && not (b == 92)) (not (b == 10)) is in
    let more = and_parts (not (b == 34)) (not (b == 92)) parts.0 in
    record { no_quote = not_equal b 34 more.0; no_break = not_equal b 10 parts.1; no_backslash = not_equal b 92 more.1 }

module _ (inside : List ℕ) (below : prefix_len is_plain inside < length inside) (quote : get_or inside (prefix_len is_plain inside) 0 ≡ 34) where
  -- what stands before the quote is the text of the string
  pub plain_body : (plain : List ℕ) → plain ≡ take (prefix_len is_plain inside) inside → (start place : ℕ) → body start 0 place inside ≡ Ok (plain, place + length plain + 1)
  plain_body plain is start place =
      let n = prefix_len is_plain inside in
      let size : length plain ≡ prefix_len is_plain inside = ap length is ∙ length-take-le (prefix_len is_plain inside) inside (omega arith) in
      let split : inside ≡ plain ++ drop (prefix_len is_plain inside) inside = sym (take-append-drop (prefix_len is_plain inside) inside) ∙ ap (λ xs. xs ++ drop (prefix_len is_plain inside) inside) (sym is) in
      let zero : prefix_len is_plain inside + 0 ≡ prefix_len is_plain inside = omega arith in
      let here : get_or (drop (prefix_len is_plain inside) inside) 0 0 ≡ 34 = get_or-drop (prefix_len is_plain inside) inside 0 0 ∙ ap (λ i. get_or inside i 0) zero ∙ quote in
      ap (body start 0 place) split
      ∙ body-raws start place plain (drop (prefix_len is_plain inside) inside)
      (λ k short.
      let lower : k < prefix_len is_plain inside = omega arith in
      subst IsRaw (sym (ap (λ xs. get_or xs k 0) is ∙ get_or-take (prefix_len is_plain inside) inside k 0 lower)) (plain_raw _ (prefix_len_passes is_plain inside k 0 lower)))
      ∙ ap (with_front plain) (body-close start (place + length plain) (drop (prefix_len is_plain inside) inside) (omega (arith, length-drop (prefix_len is_plain inside) inside)) here)
      ∙ ap (λ xs. Ok (xs, place + length plain + 1)) (append-nil plain)

  -- the string ends with its quote
  pub plain_ends : (len : ℕ) → len ≡ prefix_len is_plain inside + 1 → EndsAscii inside len
  plain_ends len is =
      let e : prefix_len is_plain inside ≡ len - 1 = omega arith in
      record {
        some = omega arith;
        within = omega arith;
        ascii = subst (λ i. get_or inside i 0 < 128) e (subst (λ n. n < 128) (sym quote) (lit< tt));
      }

  -- a text may be cut before the quote
  pub plain_boundary : IsCharBoundary inside (prefix_len is_plain inside)
  plain_boundary = IsCharBoundary-before_ascii inside _ below (subst (λ n. n < 128) (sym quote) (lit< tt))
