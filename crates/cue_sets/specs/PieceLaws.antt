-- Which numbers ascending pieces have.
use Rattle.std.proofs.Common.{◌≡◌, ◌≤◌, Bool, true, false, ◌||◌, List, [], ◌∷◌, ◌++◌, length}
use Rattle.std.proofs.Common.{get_or, ℤ, pos, ◌+ℤ◌, ◌≤ℤ◌, ◌<ℤ◌, refl, sym, ap, subst, ◌∙◌, ◌↔◌}
use Rattle.std.proofs.Common.{arith}
use Rattle.std.specs.Prelude.{int_le, int_lt}
use Rattle.std.proofs.lemmas.Bool.{and_left, and_right, and_from, or_right, false≢true}
use Rattle.std.proofs.lemmas.Int.{ints, by_lt_z}
use Rattle.cue_lattice.specs.Bools.{bool_same}
use Rattle.cue_lattice.specs.Scalar.{IsInteger}
use Rattle.cue_sets.specs.Pieces.{is_within, is_member, least, greatest, AscendsFrom, IsCanonical}
use Rattle.cue_sets.specs.Pieces.{RefusesInteger, IsFirstMember, IsOnlyMember}

pub lt_true : (a b : ℤ) → a <ℤ b → int_lt a b ≡ true
lt_true a b h = grind (arith, ints)

pub lt_false : (a b : ℤ) → b ≤ℤ a → int_lt a b ≡ false
lt_false a b h = grind (arith, ints)

pub le_true : (a b : ℤ) → a ≤ℤ b → int_le a b ≡ true
le_true a b h = grind (arith, ints)

pub le_false : (a b : ℤ) → b <ℤ a → int_le a b ≡ false
le_false a b h = grind (arith, ints)

pub is_within-below : (piece : ℤ × ℤ) (n : ℤ) → n <ℤ piece.0 → is_within piece n ≡ false
is_within-below piece n h = and_left (int_le piece.0 n) (int_le n piece.1) (le_false piece.0 n h)

pub is_within-above : (piece : ℤ × ℤ) (n : ℤ) → piece.1 <ℤ n → is_within piece n ≡ false
is_within-above piece n h = and_right (int_le piece.0 n) (int_le n piece.1) (le_false n piece.1 h)

pub is_within-inside : (piece : ℤ × ℤ) (n : ℤ) → piece.0 ≤ℤ n → n ≤ℤ piece.1
    → is_within piece n ≡ true
is_within-inside piece n h k =
    and_from (int_le piece.0 n) (int_le n piece.1) (le_true piece.0 n h) (le_true n piece.1 k)

-- pieces that begin at a later number begin at an earlier one or later
pub AscendsFrom-lower : (s t : ℤ) (pieces : List (ℤ × ℤ)) → s ≤ℤ t → AscendsFrom t pieces
    → AscendsFrom s pieces
AscendsFrom-lower s t [] h a = tt
AscendsFrom-lower s t (piece ∷ pieces) h a = let b = a.0 in (omega (arith, ints), a.1, a.2, a.3)

-- no number before the start is a member
pub is_member-below : (start : ℤ) (pieces : List (ℤ × ℤ)) (n : ℤ) → AscendsFrom start pieces
    → n <ℤ start → is_member pieces n ≡ false
is_member-below start [] n a h = refl
is_member-below start (piece ∷ pieces) n a h =
    let b = a.0 in let d = a.1 in
    rw (is_within-below piece n (omega (arith, ints)))
    (is_member-below (piece.1 +ℤ pos 2) pieces n a.3 (omega (arith, ints)))

-- no number above the greatest integer is a member
pub is_member-above : (start : ℤ) (pieces : List (ℤ × ℤ)) (n : ℤ) → AscendsFrom start pieces
    → greatest <ℤ n → is_member pieces n ≡ false
is_member-above start [] n a h = refl
is_member-above start (piece ∷ pieces) n a h =
    let b = a.2 in
    rw (is_within-above piece n (omega (arith, ints)))
    (is_member-above (piece.1 +ℤ pos 2) pieces n a.3 h)

-- no number before the first piece is a member
pub is_member-before_first : (start : ℤ) (pieces : List (ℤ × ℤ)) (d : ℤ × ℤ) (n : ℤ)
    → AscendsFrom start pieces → 1 ≤ length pieces → n <ℤ (get_or pieces 0 d).0
    → is_member pieces n ≡ false
is_member-before_first start [] d n a l h = refl
is_member-before_first start (piece ∷ pieces) d n a l h =
    is_member-below piece.0 (piece ∷ pieces) n (omega (arith, ints), a.1, a.2, a.3) h

or_assoc : (a b c : Bool) → ((a || b) || c) ≡ (a || (b || c))
or_assoc true b c = refl
or_assoc false b c = refl

pub is_member-append : (xs ys : List (ℤ × ℤ)) (n : ℤ)
    → is_member (xs ++ ys) n ≡ (is_member xs n || is_member ys n)
is_member-append [] ys n = refl
is_member-append (x ∷ xs) ys n =
    ap (λ b. is_within x n || b) (is_member-append xs ys n)
    ∙ sym (or_assoc (is_within x n) (is_member xs n) (is_member ys n))

first_member : (piece : ℤ × ℤ) (pieces : List (ℤ × ℤ)) → piece.0 ≤ℤ piece.1
    → is_member (piece ∷ pieces) piece.0 ≡ true
first_member piece pieces h = rw (is_within-inside piece piece.0 (omega (arith, ints)) h) refl

last_member : (piece : ℤ × ℤ) (pieces : List (ℤ × ℤ)) → piece.0 ≤ℤ piece.1
    → is_member (piece ∷ pieces) piece.1 ≡ true
last_member piece pieces h = rw (is_within-inside piece piece.1 h (omega (arith, ints))) refl

-- right after the first piece is a gap
gap_after : (piece : ℤ × ℤ) (pieces : List (ℤ × ℤ)) (n : ℤ) → AscendsFrom (piece.1 +ℤ pos 2) pieces
    → piece.1 <ℤ n → n <ℤ (piece.1 +ℤ pos 2) → is_member (piece ∷ pieces) n ≡ false
gap_after piece pieces n a h k =
    rw (is_within-above piece n h) (is_member-below (piece.1 +ℤ pos 2) pieces n a k)

unequal_members : (xs ys : List (ℤ × ℤ)) (n : ℤ) → ((n : ℤ) → is_member xs n ≡ is_member ys n)
    → is_member xs n ≡ true → is_member ys n ≡ false → ⊥
unequal_members xs ys n e t f = false≢true (sym f ∙ sym (e n) ∙ t)

-- the last numbers of the first pieces: the first list's does not lie below the other's
not_shorter : (p q : ℤ × ℤ) (ps qs : List (ℤ × ℤ)) → p.0 ≡ q.0 → p.0 ≤ℤ p.1
    → AscendsFrom (p.1 +ℤ pos 2) ps → ((n : ℤ) → is_member (p ∷ ps) n ≡ is_member (q ∷ qs) n)
    → p.1 <ℤ q.1 → ⊥
not_shorter p q ps qs same h a e k =
    unequal_members (q ∷ qs) (p ∷ ps) (p.1 +ℤ pos 1) (λ n. sym (e n))
    (rw (is_within-inside q (p.1 +ℤ pos 1) (omega (arith, ints)) (omega (arith, ints))) refl)
    (gap_after p ps (p.1 +ℤ pos 1) a (omega (arith, ints)) (omega (arith, ints)))

-- the first numbers of the first pieces: the first list's does not lie below the other's
not_earlier : (p q : ℤ × ℤ) (ps qs : List (ℤ × ℤ)) (start : ℤ) → p.0 ≤ℤ p.1
    → AscendsFrom start (q ∷ qs) → ((n : ℤ) → is_member (p ∷ ps) n ≡ is_member (q ∷ qs) n)
    → p.0 <ℤ q.0 → ⊥
not_earlier p q ps qs start h a e k =
    unequal_members (p ∷ ps) (q ∷ qs) p.0 e (first_member p ps h)
    (is_member-below q.0 (q ∷ qs) p.0 (omega (arith, ints), a.1, a.2, a.3) k)

not_below_same : (x y : ℤ) → (x <ℤ y → ⊥) → (y <ℤ x → ⊥) → x ≡ y
not_below_same x y h k =
    by_lt_z x y (λ l. absurd (h l))
    (λ m. by_lt_z y x (λ l. absurd (k l)) (λ o. omega (arith, ints)))

rest_same : (p : ℤ × ℤ) (ps qs : List (ℤ × ℤ)) (n : ℤ) → AscendsFrom (p.1 +ℤ pos 2) ps
    → AscendsFrom (p.1 +ℤ pos 2) qs → is_member (p ∷ ps) n ≡ is_member (p ∷ qs) n
    → is_member ps n ≡ is_member qs n
rest_same p ps qs n a b e =
    by_lt_z p.1 n
    (λ h. subst (λ w. (w || is_member ps n) ≡ (w || is_member qs n)) (is_within-above p n h) e)
    (λ h. is_member-below (p.1 +ℤ pos 2) ps n a (omega (arith, ints))
    ∙ sym (is_member-below (p.1 +ℤ pos 2) qs n b (omega (arith, ints))))

-- pieces with equal members are equal
pub same_from_members : (s t : ℤ) (xs ys : List (ℤ × ℤ)) → AscendsFrom s xs → AscendsFrom t ys
    → ((n : ℤ) → is_member xs n ≡ is_member ys n) → xs ≡ ys
same_from_members s t [] [] a b e = refl
same_from_members s t [] (q ∷ qs) a b e = absurd (false≢true (e q.0 ∙ first_member q qs b.1))
same_from_members s t (p ∷ ps) [] a b e = absurd (false≢true (sym (e p.0) ∙ first_member p ps a.1))
same_from_members s t (p ∷ ps) (q ∷ qs) a b e =
    let first : p.0 ≡ q.0 =
    not_below_same p.0 q.0 (not_earlier p q ps qs t a.1 b e)
    (not_earlier q p qs ps s b.1 a (λ n. sym (e n))) in
    let last : p.1 ≡ q.1 =
    not_below_same p.1 q.1 (not_shorter p q ps qs first a.1 a.3 e)
    (not_shorter q p qs ps (sym first) b.1 b.3 (λ n. sym (e n))) in
    let heads : p ≡ q = λ i. (first i, last i) in
    let b' : AscendsFrom (p.1 +ℤ pos 2) qs =
    subst (λ x. AscendsFrom (x +ℤ pos 2) qs) (sym last) b.3 in
    let e' : (n : ℤ) → is_member (p ∷ ps) n ≡ is_member (p ∷ qs) n =
    λ n. e n ∙ ap (λ x. is_member (x ∷ qs) n) (sym heads) in
    let rests =
    same_from_members (p.1 +ℤ pos 2) (p.1 +ℤ pos 2) ps qs a.3 b'
    (λ n. rest_same p ps qs n a.3 b' (e' n)) in
    λ i. heads i ∷ rests i

outside_same : (xs ys : List (ℤ × ℤ)) (n : ℤ) → IsCanonical xs → IsCanonical ys
    → (IsInteger n → is_member xs n ≡ is_member ys n) → is_member xs n ≡ is_member ys n
outside_same xs ys n a b e =
    by_lt_z n least
    (λ h. is_member-below least xs n a h ∙ sym (is_member-below least ys n b h))
    (λ low. by_lt_z greatest n
    (λ h. is_member-above least xs n a h ∙ sym (is_member-above least ys n b h))
    (λ high. e (low, high)))

-- sets that refuse the same numbers are equal
pub same_pieces : (xs ys : List (ℤ × ℤ)) → IsCanonical xs → IsCanonical ys
    → ((n : ℤ) → RefusesInteger xs n ↔ RefusesInteger ys n) → xs ≡ ys
same_pieces xs ys a b e =
    same_from_members least least xs ys a b
    (λ n. outside_same xs ys n a b
    (λ r. bool_same _ _ (λ f. ((e n).0 (r, f)).1) (λ f. ((e n).1 (r, f)).1)))

abbrev full_pieces : List (ℤ × ℤ)
full_pieces = (least, greatest) ∷ []

full_refuses_none : (n : ℤ) → RefusesInteger full_pieces n → ⊥
full_refuses_none n r =
    false≢true (sym r.1 ∙ rw (is_within-inside (least, greatest) n r.0.0 r.0.1) refl)

-- the set of all integers is the one that refuses nothing
pub free_is_full : (pieces : List (ℤ × ℤ)) → IsCanonical pieces
    → (pieces ≡ (least, greatest) ∷ []) ↔ ((n : ℤ) → ¬ RefusesInteger pieces n)
free_is_full pieces a = (
  λ e. subst (λ xs. (n : ℤ) → RefusesInteger xs n → ⊥) (sym e) full_refuses_none,
  λ h. same_pieces pieces full_pieces a
      (omega (arith, ints), omega (arith, ints), omega (arith, ints), tt)
      (λ n. (λ r. absurd (h n r), λ r. absurd (full_refuses_none n r))),
)

-- one piece of several numbers has no only member
pub several_in_one : (start : ℤ) (pieces : List (ℤ × ℤ)) (d : ℤ × ℤ) → AscendsFrom start pieces
    → 1 ≤ length pieces → ((get_or pieces 0 d).0 ≡ (get_or pieces 0 d).1 → ⊥) → (n : ℤ)
    → IsOnlyMember pieces n → ⊥
several_in_one start [] d a l apart n o = absurd (omega arith)
several_in_one start (piece ∷ pieces) d a l apart n o =
    apart
    (o.only piece.0 (first_member piece pieces a.1)
    ∙ sym (o.only piece.1 (last_member piece pieces a.1)))

-- nor have several pieces
pub several_pieces : (start : ℤ) (pieces : List (ℤ × ℤ)) → AscendsFrom start pieces
    → 2 ≤ length pieces → (n : ℤ) → IsOnlyMember pieces n → ⊥
several_pieces start [] a l n o = absurd (omega arith)
several_pieces start (p ∷ []) a l n o = absurd (omega arith)
several_pieces start (p ∷ q ∷ pieces) a l n o =
    let above = a.3.0 in let b = a.1 in
    let e : p.0 ≡ q.0 =
    o.only p.0 (first_member p (q ∷ pieces) a.1)
    ∙ sym (o.only q.0 (or_right _ _ (first_member q pieces a.3.1))) in
    absurd (omega (arith, ints))

-- the first number of the first piece is the least member
pub first_is_least : (start : ℤ) (pieces : List (ℤ × ℤ)) (d : ℤ × ℤ) → AscendsFrom start pieces
    → 1 ≤ length pieces → IsFirstMember pieces (get_or pieces 0 d).0
first_is_least start [] d a l = absurd (omega arith)
first_is_least start (piece ∷ pieces) d a l = record {
  member = first_member piece pieces a.1;
  first =
      λ m h. by_lt_z m piece.0
      (λ below. absurd
      (false≢true
      (sym (is_member-before_first start (piece ∷ pieces) d m a l below) ∙ h)))
      (λ above. above);
}

-- a set that is not empty has a member
pub some_member : (pieces : List (ℤ × ℤ)) → IsCanonical pieces → (pieces ≡ [] → ⊥)
    → (n : ℤ) × (is_member pieces n ≡ true)
some_member [] a h = absurd (h refl)
some_member (piece ∷ pieces) a h = (piece.0, first_member piece pieces a.1)
