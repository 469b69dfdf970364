-- Sets of one piece: what two of them have in common, and when one lies within the other.
use Rattle.std.proofs.Common.{◌≡◌, ◌↔◌, Bool, true, false, cond, ◌&&◌, IsTrue, List, [], ◌∷◌, ℤ, ◌≤ℤ◌, ◌<ℤ◌, SFits, to_z, of_z, w64, refl, sym, subst, ◌∙◌, arith}
use Rattle.std.specs.Prelude.{int_le, int_lt}
use Rattle.std.specs.Int.{int_max, int_min}
use Rattle.std.proofs.lemmas.Bool.{and_left, and_right, false≢true}
use Rattle.std.proofs.lemmas.Int.{ints, clamps, by_lt_z, to_z-of_z}
use Rattle.cue_sets.specs.Pieces.{is_member, IsCanonical}
use Rattle.cue_sets.specs.PieceLaws.{le_true, le_false, is_within-below, is_within-above, is_within-inside}

inside : (piece : ℤ × ℤ) (n : ℤ) → piece.0 ≤ℤ n → n ≤ℤ piece.1 → is_member (piece ∷ []) n ≡ true
inside piece n h k = rw (is_within-inside piece n h k) refl

below : (piece : ℤ × ℤ) (n : ℤ) → n <ℤ piece.0 → is_member (piece ∷ []) n ≡ false
below piece n h = rw (is_within-below piece n h) refl

above : (piece : ℤ × ℤ) (n : ℤ) → piece.1 <ℤ n → is_member (piece ∷ []) n ≡ false
above piece n h = rw (is_within-above piece n h) refl

from_first : (piece : ℤ × ℤ) (n : ℤ) → is_member (piece ∷ []) n ≡ true → piece.0 ≤ℤ n
from_first piece n m = by_lt_z n piece.0 (λ h. absurd (false≢true (sym (below piece n h) ∙ m))) (λ h. h)

to_last : (piece : ℤ × ℤ) (n : ℤ) → is_member (piece ∷ []) n ≡ true → n ≤ℤ piece.1
to_last piece n m = by_lt_z piece.1 n (λ h. absurd (false≢true (sym (above piece n h) ∙ m))) (λ h. h)

-- the numbers from the later first number to the earlier last one are those that both pieces have
pub common_piece :
    (a b : ℤ × ℤ) (first last : ℤ) → a.0 ≤ℤ first → b.0 ≤ℤ first → ((n : ℤ) → a.0 ≤ℤ n → b.0 ≤ℤ n → first ≤ℤ n)
    → last ≤ℤ a.1 → last ≤ℤ b.1 → ((n : ℤ) → n ≤ℤ a.1 → n ≤ℤ b.1 → n ≤ℤ last)
    → (n : ℤ) → is_member ((first, last) ∷ []) n ≡ (is_member (a ∷ []) n && is_member (b ∷ []) n)
common_piece a b first last la lb least ha hb greatest n =
    by_lt_z n a.0 (λ h. below (first, last) n (omega (arith, ints)) ∙ sym (and_left _ _ (below a n h)))
    (λ fa. by_lt_z n b.0 (λ h. below (first, last) n (omega (arith, ints)) ∙ sym (and_right _ _ (below b n h)))
    (λ fb. by_lt_z a.1 n (λ h. above (first, last) n (omega (arith, ints)) ∙ sym (and_left _ _ (above a n h)))
    (λ ta. by_lt_z b.1 n (λ h. above (first, last) n (omega (arith, ints)) ∙ sym (and_right _ _ (above b n h)))
    (λ tb. rw (inside (first, last) n (least n fa fb) (greatest n ta tb), inside a n fa ta, inside b n fb tb) refl))))

-- a piece that ends before it begins has no number
pub none_between : (first last : ℤ) → last <ℤ first → (n : ℤ) → false ≡ is_member ((first, last) ∷ []) n
none_between first last h n =
    by_lt_z n first (λ k. sym (below (first, last) n k)) (λ k. sym (above (first, last) n (omega (arith, ints))))

-- what holds of two numbers holds of the one that is chosen
one_of : (P : ℤ → Type 0) (t : Bool) (x y : ℤ) → P x → P y → P (cond t x y)
one_of P true x y p q = p
one_of P false x y p q = q

max_bounds : (x y : ℤ) → (x ≤ℤ int_max x y) × (y ≤ℤ int_max x y)
max_bounds x y = (omega (arith, ints, clamps), omega (arith, ints, clamps))

min_bounds : (x y : ℤ) → (int_min x y ≤ℤ x) × (int_min x y ≤ℤ y)
min_bounds x y = (omega (arith, ints, clamps), omega (arith, ints, clamps))

-- from the later of their first numbers to the earlier of their last ones
common_between : (a b : ℤ × ℤ) (n : ℤ) → is_member ((int_max a.0 b.0, int_min a.1 b.1) ∷ []) n ≡ (is_member (a ∷ []) n && is_member (b ∷ []) n)
common_between a b =
    let low = max_bounds a.0 b.0 in
    let high = min_bounds a.1 b.1 in
    common_piece a b (int_max a.0 b.0) (int_min a.1 b.1)
    low.0 low.1 (λ n h k. one_of (λ m. m ≤ℤ n) (int_lt b.0 a.0) a.0 b.0 h k)
    high.0 high.1 (λ n h k. one_of (λ m. n ≤ℤ m) (int_lt b.1 a.1) b.1 a.1 k h)

-- a number, as the code passes it on
abbrev pub passed : ℤ → ℤ
passed n = to_z w64 (of_z w64 n)

abbrev pub EndsFit : ℤ × ℤ → Type 0
EndsFit piece = SFits w64 piece.0 × SFits w64 piece.1

-- the same of the ends that the code takes
pub common_ends :
    (a b : ℤ × ℤ) (first last : ℤ) → EndsFit a → EndsFit b → EndsFit (first, last)
    → first ≡ int_max (passed a.0) (passed b.0) → last ≡ int_min (passed a.1) (passed b.1)
    → (n : ℤ) → is_member ((passed first, passed last) ∷ []) n ≡ (is_member (a ∷ []) n && is_member (b ∷ []) n)
common_ends a b first last f g h d e n =
    rw (to_z-of_z w64 first h.0, to_z-of_z w64 last h.1, d, e, to_z-of_z w64 a.0 f.0, to_z-of_z w64 a.1 f.1, to_z-of_z w64 b.0 g.0, to_z-of_z w64 b.1 g.1)
    (common_between a b n)

is_less : {x y : ℤ} → int_lt x y ≡ true → x <ℤ y
is_less h = omega (arith, ints)

-- where they end before they begin
pub no_common_ends :
    (a b : ℤ × ℤ) (first last : ℤ) → EndsFit a → EndsFit b → EndsFit (first, last)
    → first ≡ int_max (passed a.0) (passed b.0) → last ≡ int_min (passed a.1) (passed b.1) → int_lt (passed last) (passed first) ≡ true
    → (n : ℤ) → false ≡ (is_member (a ∷ []) n && is_member (b ∷ []) n)
no_common_ends a b first last f g k d e h n =
    none_between (passed first) (passed last) (is_less h) n ∙ common_ends a b first last f g k d e n

-- a piece that does not end before it begins
pub canonical_piece : (first last : ℤ) → SFits w64 first → SFits w64 last → int_lt (passed last) (passed first) ≡ false → IsCanonical ((passed first, passed last) ∷ [])
canonical_piece first last f g h = (omega (arith, ints), omega (arith, ints), omega (arith, ints), tt)

-- one piece lies within another that begins no later and ends no earlier
pub within_one :
    (a b : ℤ × ℤ) → a.0 ≤ℤ a.1
    → ((b.0 ≤ℤ a.0) × (a.1 ≤ℤ b.1)) ↔ ((n : ℤ) → is_member (a ∷ []) n ≡ true → is_member (b ∷ []) n ≡ true)
within_one a b h = (
  λ w n m.
      let low = w.0 in
      let high = w.1 in
      let first = from_first a n m in
      let last = to_last a n m in
      inside b n (omega (arith, ints)) (omega (arith, ints)),
  λ all. (
    from_first b a.0 (all a.0 (inside a a.0 (omega (arith, ints)) h)),
    to_last b a.1 (all a.1 (inside a a.1 h (omega (arith, ints)))),
  ),
)

le_from : (x y : ℤ) → int_le x y ≡ true → x ≤ℤ y
le_from x y e = by_lt_z y x (λ h. absurd (false≢true (sym (le_false x y h) ∙ e))) (λ h. h)

-- where the right piece begins no later, its last number tells whether the left one lies within it
pub within_by_last :
    (xs ys : List (ℤ × ℤ)) (a b : ℤ × ℤ) (x y : ℤ) → xs ≡ a ∷ [] → ys ≡ b ∷ [] → IsCanonical xs → b.0 ≤ℤ a.0 → x ≡ a.1 → y ≡ b.1
    → IsTrue (int_le x y) ↔ ((n : ℤ) → is_member xs n ≡ true → is_member ys n ≡ true)
within_by_last xs ys a b x y p q h first u v =
    let w = within_one a b ((subst IsCanonical p h).1) in
    rw (p, q, u, v) (λ e. w.0 (first, le_from a.1 b.1 e), λ all. le_true a.1 b.1 (w.1 all).1)

-- where it begins later, the left one does not
pub not_within :
    (xs ys : List (ℤ × ℤ)) (a b : ℤ × ℤ) (x y : ℤ) → xs ≡ a ∷ [] → ys ≡ b ∷ [] → IsCanonical xs → a.0 <ℤ b.0 → x ≡ b.0 → y ≡ a.0
    → IsTrue (int_le x y) ↔ ((n : ℤ) → is_member xs n ≡ true → is_member ys n ≡ true)
not_within xs ys a b x y p q h later u v =
    let w = within_one a b ((subst IsCanonical p h).1) in
    rw (p, q, u, v) (λ e. let first = le_from b.0 a.0 e in absurd (omega (arith, ints)), λ all. le_true b.0 a.0 (w.1 all).0)
