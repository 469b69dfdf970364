-- Pieces of integers without others: which numbers are left, and that they are in the one form.
use Rattle.std.proofs.Common.{◌≡◌, Bool, true, false, not, ◌&&◌, ◌||◌, List, [], ◌∷◌, ◌++◌, ℤ, pos, ◌+ℤ◌, ◌-ℤ◌, ◌≤ℤ◌, ◌<ℤ◌, refl, sym, ap, ◌∙◌, subst, arith}
use Rattle.std.specs.Prelude.{int_le}
use Rattle.std.proofs.lemmas.List.{append_assoc}
use Rattle.std.proofs.lemmas.Int.{ints, by_lt_z}
use Rattle.cue_sets.specs.Pieces.{is_within, is_member, least, greatest, AscendsFrom, IsCanonical}
use Rattle.cue_sets.specs.PieceLaws.{le_true, le_false, AscendsFrom-lower, is_member-append}
use Rattle.cue_print.specs.Difference.{span, minimum, maximum, piece_without, cut_piece, pieces_without}

-- ---- the lesser and the greater of two numbers
lesser_first : (m n : ℤ) → m ≤ℤ n → minimum m n ≡ m
lesser_first m n h = rw (le_true m n h) refl

lesser_second : (m n : ℤ) → n <ℤ m → minimum m n ≡ n
lesser_second m n h = rw (le_false m n h) refl

greater_first : (m n : ℤ) → n <ℤ m → maximum m n ≡ m
greater_first m n h = rw (le_false m n h) refl

greater_second : (m n : ℤ) → m ≤ℤ n → maximum m n ≡ n
greater_second m n h = rw (le_true m n h) refl

record AreBounds (m n low high : ℤ) : Type 0 where
  low_first : low ≤ℤ m
  low_second : low ≤ℤ n
  high_first : m ≤ℤ high
  high_second : n ≤ℤ high

bounds : (m n : ℤ) → AreBounds m n (minimum m n) (maximum m n)
bounds m n =
    by_lt_z n m
    (λ h. subst (λ z. AreBounds m n z (maximum m n)) (sym (lesser_second m n h)) (subst (λ z. AreBounds m n n z) (sym (greater_first m n h)) (record { low_first = omega (arith, ints); low_second = omega (arith, ints); high_first = omega (arith, ints); high_second = omega (arith, ints) })))
    (λ h. subst (λ z. AreBounds m n z (maximum m n)) (sym (lesser_first m n h)) (subst (λ z. AreBounds m n m z) (sym (greater_second m n h)) (record { low_first = omega (arith, ints); low_second = omega (arith, ints); high_first = omega (arith, ints); high_second = omega (arith, ints) })))

-- n is at most the lesser where it is at most both
le_lesser : (n l m : ℤ) → int_le n (minimum l m) ≡ (int_le n l && int_le n m)
le_lesser n l m =
    by_lt_z m l
    (λ h. ap (int_le n) (lesser_second l m h) ∙ by_lt_z m n (λ k. rw (le_false n m k) (sym (none (int_le n l)))) (λ k. rw (le_true n m k, le_true n l (omega (arith, ints))) refl))
    (λ h. ap (int_le n) (lesser_first l m h) ∙ by_lt_z l n (λ k. rw (le_false n l k) refl) (λ k. rw (le_true n l k, le_true n m (omega (arith, ints))) refl)) where
      none : (b : Bool) → (b && false) ≡ false
      none true = refl
      none false = refl

-- n is at least the greater where it is at least both
greater_le : (n l m : ℤ) → int_le (maximum l m) n ≡ (int_le l n && int_le m n)
greater_le n l m =
    by_lt_z m l
    (λ h. ap (λ z. int_le z n) (greater_first l m h) ∙ by_lt_z n l (λ k. rw (le_false l n k) refl) (λ k. rw (le_true l n k, le_true m n (omega (arith, ints))) refl))
    (λ h. ap (λ z. int_le z n) (greater_second l m h) ∙ by_lt_z n m (λ k. rw (le_false m n k) (sym (none (int_le l n)))) (λ k. rw (le_true m n k, le_true l n (omega (arith, ints))) refl)) where
      none : (b : Bool) → (b && false) ≡ false
      none true = refl
      none false = refl

before_gap : (first n : ℤ) → int_le n (first -ℤ pos 1) ≡ not (int_le first n)
before_gap first n =
    by_lt_z n first
    (λ h. rw (le_true n (first -ℤ pos 1) (omega (arith, ints)), le_false first n h) refl)
    (λ h. rw (le_false n (first -ℤ pos 1) (omega (arith, ints)), le_true first n h) refl)

behind_gap : (last n : ℤ) → int_le (last +ℤ pos 1) n ≡ not (int_le n last)
behind_gap last n =
    by_lt_z last n
    (λ h. rw (le_true (last +ℤ pos 1) n (omega (arith, ints)), le_false n last h) refl)
    (λ h. rw (le_false (last +ℤ pos 1) n (omega (arith, ints)), le_true n last h) refl)

-- ---- members
span_member : (first last n : ℤ) → is_member (span first last) n ≡ (int_le first n && int_le n last)
span_member first last n =
    by_lt_z last first
    (λ h. rw (le_false first last h) (by_lt_z n first (λ k. rw (le_false first n k) refl) (λ k. rw (le_false n last (omega (arith, ints))) (sym (none (int_le first n))))))
    (λ h. rw (le_true first last h) (same (int_le first n && int_le n last))) where
      none : (b : Bool) → (b && false) ≡ false
      none true = refl
      none false = refl

      same : (b : Bool) → (b || false) ≡ b
      same true = refl
      same false = refl

split : (p q a b : Bool) → ((p && (q && not a)) || ((p && not b) && q)) ≡ ((p && q) && not (a && b))
split false q a b = refl
split true false a true = refl
split true false a false = refl
split true true true true = refl
split true true true false = refl
split true true false true = refl
split true true false false = refl

piece_member : (gap piece : ℤ × ℤ) (n : ℤ) → is_member (piece_without gap piece) n ≡ (is_within piece n && not (is_within gap n))
piece_member gap piece n =
    is_member-append (span piece.0 (minimum piece.1 (gap.0 -ℤ pos 1))) (span (maximum piece.0 (gap.1 +ℤ pos 1)) piece.1) n
    ∙ ap (λ b. b || is_member (span (maximum piece.0 (gap.1 +ℤ pos 1)) piece.1) n)
    (span_member piece.0 (minimum piece.1 (gap.0 -ℤ pos 1)) n ∙ ap (λ b. int_le piece.0 n && b) (le_lesser n piece.1 (gap.0 -ℤ pos 1) ∙ ap (λ b. int_le n piece.1 && b) (before_gap gap.0 n)))
    ∙ ap (λ b. (int_le piece.0 n && (int_le n piece.1 && not (int_le gap.0 n))) || b)
    (span_member (maximum piece.0 (gap.1 +ℤ pos 1)) piece.1 n ∙ ap (λ b. b && int_le n piece.1) (greater_le n piece.0 (gap.1 +ℤ pos 1) ∙ ap (λ b. int_le piece.0 n && b) (behind_gap gap.1 n)))
    ∙ split (int_le piece.0 n) (int_le n piece.1) (int_le gap.0 n) (int_le n gap.1)

shared : (a b c : Bool) → ((a && c) || (b && c)) ≡ ((a || b) && c)
shared true true true = refl
shared true true false = refl
shared true false true = refl
shared true false false = refl
shared false b c = refl

cut_member : (gap : ℤ × ℤ) (pieces : List (ℤ × ℤ)) (n : ℤ) → is_member (cut_piece gap pieces) n ≡ (is_member pieces n && not (is_within gap n))
cut_member gap [] n = refl
cut_member gap (piece ∷ pieces) n =
    is_member-append (piece_without gap piece) (cut_piece gap pieces) n
    ∙ ap (λ b. b || is_member (cut_piece gap pieces) n) (piece_member gap piece n)
    ∙ ap (λ b. (is_within piece n && not (is_within gap n)) || b) (cut_member gap pieces n)
    ∙ shared (is_within piece n) (is_member pieces n) (not (is_within gap n))

nested : (a b c : Bool) → ((a && not b) && not c) ≡ (a && not (b || c))
nested true true c = refl
nested true false c = refl
nested false b c = refl

all_left : (a : Bool) → a ≡ (a && true)
all_left true = refl
all_left false = refl

pub left_member : (pieces gaps : List (ℤ × ℤ)) (n : ℤ) → is_member (pieces_without pieces gaps) n ≡ (is_member pieces n && not (is_member gaps n))
left_member pieces [] n = all_left (is_member pieces n)
left_member pieces (gap ∷ gaps) n =
    left_member (cut_piece gap pieces) gaps n ∙ ap (λ b. b && not (is_member gaps n)) (cut_member gap pieces n)
    ∙ nested (is_member pieces n) (is_within gap n) (is_member gaps n)

-- ---- the one form
span_ascends : (start first last : ℤ) (rest : List (ℤ × ℤ)) → start ≤ℤ first → last ≤ℤ greatest → AscendsFrom (last +ℤ pos 2) rest → AscendsFrom start rest → AscendsFrom start (span first last ++ rest)
span_ascends start first last rest s g behind from =
    by_lt_z last first
    (λ h. rw (le_false first last h) from)
    (λ h. rw (le_true first last h) (s, h, g, behind))

cut_ascends : (start : ℤ) (gap : ℤ × ℤ) (pieces : List (ℤ × ℤ)) → gap.0 ≤ℤ gap.1 → AscendsFrom start pieces → AscendsFrom start (cut_piece gap pieces)
cut_ascends start gap [] h a = tt
cut_ascends start gap (piece ∷ pieces) h a =
    let s = a.0 in
    let p = a.1 in
    let g = a.2 in
    let later = cut_ascends (piece.1 +ℤ pos 2) gap pieces h a.3 in
    let low = bounds piece.1 (gap.0 -ℤ pos 1) in
    let high = bounds piece.0 (gap.1 +ℤ pos 1) in
    let below = low.low_first in
    let before = low.low_second in
    let above = high.high_first in
    let behind = high.high_second in
    let end : ℤ = minimum piece.1 (gap.0 -ℤ pos 1) in
    let begin : ℤ = maximum piece.0 (gap.1 +ℤ pos 1) in
    subst (AscendsFrom start) (sym (append_assoc (span piece.0 end) (span begin piece.1) (cut_piece gap pieces)))
    (span_ascends start piece.0 end (span begin piece.1 ++ cut_piece gap pieces) s (omega (arith, ints))
    (span_ascends (end +ℤ pos 2) begin piece.1 (cut_piece gap pieces) (omega (arith, ints)) g later (AscendsFrom-lower (end +ℤ pos 2) (piece.1 +ℤ pos 2) (cut_piece gap pieces) (omega (arith, ints)) later))
    (span_ascends start begin piece.1 (cut_piece gap pieces) (omega (arith, ints)) g later (AscendsFrom-lower start (piece.1 +ℤ pos 2) (cut_piece gap pieces) (omega (arith, ints)) later)))

left_ascends : (start first : ℤ) (pieces gaps : List (ℤ × ℤ)) → AscendsFrom first gaps → AscendsFrom start pieces → AscendsFrom start (pieces_without pieces gaps)
left_ascends start first pieces [] g a = a
left_ascends start first pieces (gap ∷ gaps) g a = left_ascends start (gap.1 +ℤ pos 2) (cut_piece gap pieces) gaps g.3 (cut_ascends start gap pieces g.1 a)

pub left_canonical : (pieces gaps : List (ℤ × ℤ)) → IsCanonical pieces → IsCanonical gaps → IsCanonical (pieces_without pieces gaps)
left_canonical pieces gaps a g = left_ascends least least pieces gaps g a
