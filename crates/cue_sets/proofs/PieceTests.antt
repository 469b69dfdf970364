-- What the code's tests of numbers and pieces tell.
use Rattle.std.proofs.Common.{◌≡◌, ◌↔◌, Bool, true, false, not, ◌&&◌, ◌||◌, IsTrue, nat_eq, List, [], ◌∷◌, length, ℤ, pos, ◌+ℤ◌, ◌-ℤ◌, ◌≤ℤ◌, ◌<ℤ◌, Decides, refl, ap, arith}
use Rattle.std.specs.Prelude.{int_le}
use Rattle.std.specs.Ordering.{int_eq}
use Rattle.std.specs.Cmp.Lexicographic.{pointwise}
use Rattle.std.proofs.lemmas.Bool.Decides.{Decides-int_eq, Decides-and, Decides-like}
use Rattle.std.proofs.lemmas.Slice.Eq.{slice_eq-Decides}
use Rattle.std.proofs.lemmas.Int.{ints, by_lt_z}
use Rattle.cue_sets.specs.Pieces.{is_member, is_int64, least, greatest, AscendsFrom}
use Rattle.cue_sets.specs.PieceLaws.{le_true, le_false}

-- whether two pieces are equal
abbrev pub piece_eq : ℤ × ℤ → ℤ × ℤ → Bool
piece_eq a b = int_eq a.0 b.0 && int_eq a.1 b.1

piece_eq-Decides : (a b : ℤ × ℤ) → Decides (piece_eq a b) (a ≡ b)
piece_eq-Decides a b =
    Decides-like (piece_eq a b) (λ p i. (p.0 i, p.1 i)) (λ e. (ap (λ p. p.0) e, ap (λ p. p.1) e))
    (Decides-and (int_eq a.0 b.0) (int_eq a.1 b.1) (Decides-int_eq a.0 b.0) (Decides-int_eq a.1 b.1))

-- `==` of two slices of pieces, where the slices are these lists
pub Decides-slices : (r : Bool) (xs ys xs' ys' : List (ℤ × ℤ)) → r ≡ pointwise piece_eq xs ys → xs ≡ xs' → ys ≡ ys' → Decides r (xs' ≡ ys')
Decides-slices r xs ys xs' ys' e p q = rw (← p, ← q) (slice_eq-Decides piece_eq-Decides xs ys r e)

eq_true : (a b : ℤ) → a ≡ b → int_eq a b ≡ true
eq_true a b e = (Decides-int_eq a b).1 e

false_when : (t : Bool) → (t ≡ true → ⊥) → t ≡ false
false_when true h = absurd (h refl)
false_when false h = refl

eq_false : (a b : ℤ) → (a ≡ b → ⊥) → int_eq a b ≡ false
eq_false a b n = false_when (int_eq a b) (λ e. n ((Decides-int_eq a b).0 e))

below_kept : (a : Bool) → ((a && true) || false) ≡ ((a && true) && true)
below_kept true = refl
below_kept false = refl

left_out : (a b : Bool) → ((a && false) || false) ≡ (b && false)
left_out true true = refl
left_out true false = refl
left_out false true = refl
left_out false false = refl

above_kept : (b : Bool) → (b || false) ≡ (b && true)
above_kept true = refl
above_kept false = refl

-- the two pieces round a number
pub is_member-round : (number low high : ℤ) → least ≤ℤ number → number ≤ℤ greatest → low ≡ number -ℤ pos 1 → high ≡ number +ℤ pos 1 → (n : ℤ) → is_member ((least, low) ∷ (high, greatest) ∷ []) n ≡ (is_int64 n && not (int_eq n number))
is_member-round number low high from to l h n =
    by_lt_z n number
    (λ below. rw (le_true n low (omega (arith, ints)), le_false high n (omega (arith, ints)), le_true n greatest (omega (arith, ints)), eq_false n number (omega (arith, ints))) (below_kept (int_le least n)))
    (λ from_here. by_lt_z number n
    (λ above. rw (le_false n low (omega (arith, ints)), le_true high n (omega (arith, ints)), le_true least n (omega (arith, ints)), eq_false n number (omega (arith, ints))) (above_kept (int_le n greatest)))
    (λ here. rw (le_false n low (omega (arith, ints)), le_false high n (omega (arith, ints)), eq_true n number (omega (arith, ints))) (left_out (int_le least n) (int_le least n && int_le n greatest))))

-- behind a piece that ends at one of the last two numbers no other has room
pub is_last :
    (r : Bool) (from : ℤ) (piece : ℤ × ℤ) (later rest : List (ℤ × ℤ)) → rest ≡ piece ∷ later → r ≡ nat_eq (length later) 0
    → from ≤ℤ piece.0 → piece.0 ≤ℤ piece.1 → piece.1 ≤ℤ greatest → greatest <ℤ (piece.1 +ℤ pos 2)
    → IsTrue r ↔ AscendsFrom from rest
is_last r from piece [] rest e is low up high end = rw (e, is) (λ h. (low, up, high, tt), λ h. refl)
is_last r from piece (next ∷ later) rest e is low up high end =
    rw (e, is) (λ h. absurd (grind (arith, h)), λ a. let b = a.3 in absurd (let from_next = b.0 in let up_next = b.1 in let end_next = b.2 in omega (arith, ints)))
