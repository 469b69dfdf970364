-- The first piece that ends at a number or later decides whether the number is a member.
use Rattle.std.proofs.Common.{◌≡◌, ℕ, zero, suc, ◌<◌, ◌≤◌, Bool, true, false, ◌&&◌, ◌||◌, List, [], ◌∷◌, length, get_or, ℤ, pos, ◌+ℤ◌, ◌≤ℤ◌, ◌<ℤ◌, refl, arith}
use Rattle.std.specs.Prelude.{int_le, int_lt}
use Rattle.std.proofs.lemmas.Int.{ints}
use Rattle.std.specs.List.Sorted.{IsPartitionedBy, IsPartitionPoint}
use Rattle.cue_sets.specs.Pieces.{is_member, least, AscendsFrom, IsCanonical}
use Rattle.cue_sets.specs.PieceLaws.{is_within-above, is_member-below, le_true, lt_true}

-- the pieces before `at` end below n, those from `at` on don't
pub record IsPlace (pieces : List (ℤ × ℤ)) (n : ℤ) (at : ℕ) : Type 0 where
  pub below : (k : ℕ) (d : ℤ × ℤ) → k < at → (get_or pieces k d).1 <ℤ n
  pub above : (k : ℕ) (d : ℤ × ℤ) → at ≤ k → k < length pieces → n ≤ℤ (get_or pieces k d).1

or_false : (a : Bool) → ((a && true) || false) ≡ a
or_false true = refl
or_false false = refl

rest_place : (piece : ℤ × ℤ) (pieces : List (ℤ × ℤ)) (n : ℤ) (at : ℕ) → IsPlace (piece ∷ pieces) n (suc at) → IsPlace pieces n at
rest_place piece pieces n at p = record {
  below = λ k d h. p.below (suc k) d (omega arith);
  above = λ k d h l. p.above (suc k) d (omega arith) (omega arith);
}

-- there is such a piece
pub is_member-at : (start : ℤ) (pieces : List (ℤ × ℤ)) (n : ℤ) (at : ℕ) (d : ℤ × ℤ) → AscendsFrom start pieces → IsPlace pieces n at → at < length pieces → is_member pieces n ≡ int_le (get_or pieces at d).0 n
is_member-at start [] n at d a p l = absurd (omega arith)
is_member-at start (piece ∷ pieces) n zero d a p l =
    let high : n ≤ℤ piece.1 = p.above 0 d (omega arith) l in
    rw (le_true n piece.1 high, is_member-below (piece.1 +ℤ pos 2) pieces n a.3 (omega (arith, ints))) (or_false _)
is_member-at start (piece ∷ pieces) n (suc at) d a p l =
    rw (is_within-above piece n (p.below 0 d (omega arith))) (is_member-at (piece.1 +ℤ pos 2) pieces n at d a.3 (rest_place piece pieces n at p) (omega arith))

-- there is none
pub is_member-past : (pieces : List (ℤ × ℤ)) (n : ℤ) (at : ℕ) → IsPlace pieces n at → length pieces ≤ at → is_member pieces n ≡ false
is_member-past [] n at p l = refl
is_member-past (piece ∷ pieces) n zero p l = absurd (omega arith)
is_member-past (piece ∷ pieces) n (suc at) p l =
    rw (is_within-above piece n (p.below 0 piece (omega arith))) (is_member-past pieces n at (rest_place piece pieces n at p) (omega arith))

first_end : (start : ℤ) (pieces : List (ℤ × ℤ)) (k : ℕ) (d : ℤ × ℤ) → AscendsFrom start pieces → k < length pieces → start ≤ℤ (get_or pieces k d).1
first_end start [] k d a l = absurd (omega arith)
first_end start (piece ∷ pieces) zero d a l = let f = a.0 in let g = a.1 in omega (arith, ints)
first_end start (piece ∷ pieces) (suc k) d a l =
    let f = a.0 in let g = a.1 in let h = first_end (piece.1 +ℤ pos 2) pieces k d a.3 (omega arith) in omega (arith, ints)

-- the last numbers ascend
pub ends_ascend : (start : ℤ) (pieces : List (ℤ × ℤ)) (i j : ℕ) (d : ℤ × ℤ) → AscendsFrom start pieces → i ≤ j → j < length pieces → (get_or pieces i d).1 ≤ℤ (get_or pieces j d).1
ends_ascend start [] i j d a h l = absurd (omega arith)
ends_ascend start (piece ∷ pieces) zero zero d a h l = omega (arith, ints)
ends_ascend start (piece ∷ pieces) zero (suc j) d a h l = let g = first_end (piece.1 +ℤ pos 2) pieces j d a.3 (omega arith) in omega (arith, ints)
ends_ascend start (piece ∷ pieces) (suc i) zero d a h l = absurd (omega arith)
ends_ascend start (piece ∷ pieces) (suc i) (suc j) d a h l = ends_ascend (piece.1 +ℤ pos 2) pieces i j d a.3 (omega arith) (omega arith)

lt_from : (a b : ℤ) → int_lt a b ≡ true → a <ℤ b
lt_from a b e = omega (arith, ints)

le_from : (a b : ℤ) → int_lt a b ≡ false → b ≤ℤ a
le_from a b e = omega (arith, ints)

-- what `partition_point` asks
pub IsPartitionedBy-ends : (pieces : List (ℤ × ℤ)) (n : ℤ) → IsCanonical pieces → IsPartitionedBy (λ piece. int_lt piece.1 n) pieces
IsPartitionedBy-ends pieces n a i j d h l t =
    let le = ends_ascend least pieces i j d a h l in
    let lt = lt_from (get_or pieces j d).1 n t in
    lt_true (get_or pieces i d).1 n (omega (arith, ints))

-- and what it gives
pub IsPlace-point : (pieces : List (ℤ × ℤ)) (n : ℤ) (at : ℕ) → IsPartitionPoint (λ piece. int_lt piece.1 n ≡ true) (λ piece. int_lt piece.1 n ≡ false) pieces at → IsPlace pieces n at
IsPlace-point pieces n at p = record {
  below = λ k d h. lt_from _ n (p.0 k d (omega arith) h);
  above = λ k d h l. le_from _ n (p.1 k d h l);
}
