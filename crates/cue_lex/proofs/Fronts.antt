-- What a text that begins with given bytes has at its front.
use Rattle.std.proofs.Common.{◌≡◌, ℕ, ◌+◌, ◌<◌, ◌≤◌, ◌-◌, ◌&&◌, subst, ⊎_elim, true, false, List, [], ◌∷◌, length, drop, get_or, nat_eq, refl, sym, arith, IsUtf8, lit<}
use Rattle.std.specs.List.{starts_with}
use Rattle.std.specs.Str.{IsCharBoundary}
use Rattle.std.specs.Prelude.{not, ◌==◌, ◌||◌, nat_le, Result, Ok, Err, IfOk}
use Rattle.std.specs.Char.{is_ascii_alphanumeric}
use Rattle.std.specs.List.{prefix_len}
use Rattle.std.proofs.str.Laws.{order}
use Rattle.std.proofs.lemmas.Bool.{eqb-true, and_parts, or_cases, not-false, le-leb, leb-true}
use Rattle.std.proofs.lemmas.List.Sums.{prefix_len-le-length, prefix_len_passes, prefix_len_stops}
use Rattle.std.proofs.lemmas.Str.{IsCharBoundary-after_ascii, IsCharBoundary-before_ascii, IsCharBoundary-end}
use Rattle.cue_lex.specs.Integers.{is_literal_byte}
use Rattle.cue_lex.specs.Lexemes.{EndsAscii, len_of}
use Rattle.cue_lex.specs.declared.lexeme.Lexeme.{Lexeme}
use Rattle.cue_lattice.specs.declared.refusal.Refusal.{Refusal}

-- bytes that begin with three given ones are at least as many, and have the last of these as third
pub starts_three : (a b c : ℕ) (bytes : List ℕ) → starts_with nat_eq bytes (a ∷ b ∷ c ∷ []) ≡ true → (3 ≤ length bytes) × (get_or bytes 2 0 ≡ c)
starts_three a b c [] starts = cc
starts_three a b c (x ∷ []) starts = let no : false ≡ true = (and_parts (nat_eq a x) false starts).1 in cc
starts_three a b c (x ∷ y ∷ []) starts = let no : false ≡ true = (and_parts (nat_eq b y) false (and_parts (nat_eq a x) (nat_eq b y && false) starts).1).1 in cc
starts_three a b c (x ∷ y ∷ z ∷ bytes) starts =
    let parts = and_parts (nat_eq a x) (nat_eq b y && (nat_eq c z && true)) starts in
    let more = and_parts (nat_eq b y) (nat_eq c z && true) parts.1 in
    let last = and_parts (nat_eq c z) true more.1 in
    (omega arith, sym (eqb-true c z last.0))

-- a text may be cut after these bytes, since the last one is ASCII
pub boundary_three : (a b c : ℕ) (bytes : List ℕ) → IsUtf8 bytes → c < 128 → starts_with nat_eq bytes (a ∷ b ∷ c ∷ []) ≡ true → IsCharBoundary bytes 3
boundary_three a b c bytes utf8 ascii starts =
    let front = starts_three a b c bytes starts in
    IsCharBoundary-after_ascii bytes 2 utf8 (omega arith) (omega arith)

-- a text may be cut after an ASCII byte
pub ends_boundary : (bytes : List ℕ) (len : ℕ) → IsUtf8 bytes → EndsAscii bytes len → IsCharBoundary bytes len
ends_boundary bytes len utf8 ends =
    let some = ends.some in
    let e : len - 1 + 1 ≡ len = omega arith in
    subst (IsCharBoundary bytes) e (IsCharBoundary-after_ascii bytes (len - 1) utf8 (omega (arith, ends.within)) ends.ascii)

-- the bytes of integer literals are ASCII
pub literal_ascii : (b : ℕ) → is_literal_byte b ≡ true → b < 128
literal_ascii b literal =
    ⊎_elim
    (λ alphanumeric.
    ⊎_elim
    (λ digit_or_upper.
    ⊎_elim
    (λ digit. let top = leb-true b 57 (and_parts (nat_le 48 b) (nat_le b 57) digit).1 in omega arith)
    (λ upper. let top = leb-true b 90 (and_parts (nat_le 65 b) (nat_le b 90) upper).1 in omega arith)
    (or_cases (nat_le 48 b && nat_le b 57) (nat_le 65 b && nat_le b 90) digit_or_upper))
    (λ lower. let top = leb-true b 122 (and_parts (nat_le 97 b) (nat_le b 122) lower).1 in omega arith)
    (or_cases _ (nat_le 97 b && nat_le b 122) alphanumeric))
    (λ sign.
    ⊎_elim
    (λ underscore. let e = eqb-true b 95 underscore in omega arith)
    (λ dot. let e = eqb-true b 46 dot in omega arith)
    (or_cases (b == 95) (b == 46) sign))
    (or_cases (is_ascii_alphanumeric b) ((b == 95) || (b == 46)) literal)

-- a digit and what belongs to its literal
pub literal_ends : (bytes : List ℕ) → 0 < length bytes → 48 ≤ get_or bytes 0 0 → get_or bytes 0 0 ≤ 57 → EndsAscii bytes (prefix_len is_literal_byte bytes)
literal_ends [] some low high = absurd (omega arith)
literal_ends (b ∷ bytes) some low high =
    let at_least = le-leb 48 b low in
    let at_most = le-leb b 57 high in
    let literal : is_literal_byte b ≡ true = rw (at_least, at_most) refl in
    let count : prefix_len is_literal_byte (b ∷ bytes) ≡ 1 + prefix_len is_literal_byte bytes = rw literal refl in
    let least : 0 < prefix_len is_literal_byte (b ∷ bytes) = omega arith in
    record {
      some = least;
      within = prefix_len-le-length is_literal_byte (b ∷ bytes);
      ascii = literal_ascii _ (prefix_len_passes is_literal_byte (b ∷ bytes) (prefix_len is_literal_byte (b ∷ bytes) - 1) 0 (omega arith));
    }

-- a digit belongs to its literal
pub literal_more : (bytes : List ℕ) → 0 < length bytes → 48 ≤ get_or bytes 0 0 → get_or bytes 0 0 ≤ 57 → prefix_len is_literal_byte bytes ≡ 1 + prefix_len is_literal_byte (drop 1 bytes)
literal_more [] some low high = absurd (omega arith)
literal_more (b ∷ bytes) some low high =
    let at_least = le-leb 48 b low in
    let at_most = le-leb b 57 high in
    let literal : is_literal_byte b ≡ true = rw (at_least, at_most) refl in
    rw literal refl

-- so its last byte is ASCII
pub literal_ends_more : (bytes : List ℕ) (more : ℕ) → 0 < length bytes → 48 ≤ get_or bytes 0 0 → get_or bytes 0 0 ≤ 57 → more ≡ prefix_len is_literal_byte (drop 1 bytes) → EndsAscii bytes (1 + more)
literal_ends_more bytes more some low high is =
    let all = literal_more bytes some low high in
    let len : prefix_len is_literal_byte bytes ≡ 1 + more = omega arith in
    subst (EndsAscii bytes) len (literal_ends bytes some low high)

-- a text may be cut at a line's end
pub line_boundary : (bytes : List ℕ) → IsCharBoundary bytes (prefix_len (λ b. not (b == 10)) bytes)
line_boundary bytes =
    let within = prefix_len-le-length (λ b. not (b == 10)) bytes in
    ⊎_elim
    (λ below. IsCharBoundary-before_ascii bytes _ below (subst (λ n. n < 128) (sym (eqb-true _ 10 (not-false _ (prefix_len_stops (λ b. not (b == 10)) bytes 0 below)))) (lit< tt)))
    (λ above. let e : length bytes ≡ prefix_len (λ b. not (b == 10)) bytes = omega arith in subst (IsCharBoundary bytes) e (IsCharBoundary-end bytes))
    (order (prefix_len (λ b. not (b == 10)) bytes) (length bytes))

-- a text may be cut after a lexeme whose last byte is ASCII
pub found_boundary : (bytes text : List ℕ) → bytes ≡ text → IsUtf8 text → (found : Result Lexeme Refusal) → IfOk found (λ lexeme. EndsAscii bytes (len_of lexeme)) → IfOk found (λ lexeme. IsCharBoundary text (len_of lexeme))
found_boundary bytes text same utf8 (Ok lexeme) ends = ends_boundary text (len_of lexeme) utf8 (subst (λ xs. EndsAscii xs (len_of lexeme)) same ends)
found_boundary bytes text same utf8 (Err refusal) ends = tt
