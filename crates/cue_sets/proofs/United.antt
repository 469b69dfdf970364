-- Pieces in any order that are joined to those of one set.
use Rattle.std.proofs.Common.{◌≡◌, ℕ, zero, suc, ◌+◌, ◌<◌, ◌≤◌, Bool, true, false, ◌||◌, List, [], ◌∷◌, ◌++◌, length, get_or, ℤ, pos, ◌+ℤ◌, ◌≤ℤ◌, ◌<ℤ◌, refl, sym, ap, ◌∙◌, subst, arith, append_assoc, take, All, IsPermutation}
use Rattle.std.specs.List.{list_any}
use Rattle.std.specs.List.Sorted.{IsSortedByKey}
use Rattle.std.specs.Ordering.{int_cmp, is_lt}
use Rattle.std.proofs.lemmas.Bool.{false≢true}
use Rattle.std.proofs.lemmas.Int.{ints, by_lt_z}
use Rattle.std.proofs.lemmas.List.Folds.{list_any_more}
use Rattle.std.proofs.lemmas.List.Sorted.{list_any-IsPermutation}
use Rattle.cue_sets.specs.Pieces.{is_within, is_member, least, greatest, AscendsFrom, IsCanonical}
use Rattle.cue_sets.specs.PieceLaws.{is_within-above, is_within-below, is_within-inside, is_member-append, AscendsFrom-lower}
use Rattle.cue_sets.specs.Inner.Sorted.{IsPiece}

-- the pieces begin at `start_sets` or later, and none begins before the one before it
abbrev pub RisesFrom : ℤ → List (ℤ × ℤ) → Type 0
RisesFrom start [] = Unit {0}
RisesFrom start (piece ∷ pieces) = (start ≤ℤ piece.0) × IsPiece piece × RisesFrom piece.0 pieces

not_less : (x y : ℤ) → is_lt (int_cmp y x) ≡ false → x ≤ℤ y
not_less x y e = by_lt_z y x (λ h. absurd (false≢true (sym e ∙ less h))) (λ h. h) where
  less : y <ℤ x → is_lt (int_cmp y x) ≡ true
  less h = grind (arith, ints)

plus_one : (k : ℕ) → (suc k + 1) ≡ suc (k + 1)
plus_one k = omega arith

-- pieces that are sorted by their first numbers rise
pub rises : (start : ℤ) (pieces : List (ℤ × ℤ)) → All IsPiece pieces → IsSortedByKey (λ piece. piece.0) int_cmp pieces → ((d : ℤ × ℤ) → 1 ≤ length pieces → start ≤ℤ (get_or pieces 0 d).0) → RisesFrom start pieces
rises start [] all sorted low = tt
rises start (piece ∷ pieces) all sorted low = (
  low piece (omega arith),
  all 0 piece (omega arith),
  rises piece.0 pieces (λ k d h. all (suc k) d (omega arith)) (λ k d z h. subst (λ m. is_lt (int_cmp (get_or (piece ∷ pieces) m d).0 (get_or pieces k d).0) ≡ false) (plus_one k) (sorted (suc k) d (omega arith) (omega arith)))
      (λ d h. not_less piece.0 (get_or pieces 0 d).0 (sorted 0 d (omega arith) (omega arith))),
)

-- The pieces that are made, the one that is held and those that are left have the members of all. What comes after the
-- held one comes after those that are made.
pub record AreUnited (made : List (ℤ × ℤ)) (held : ℤ × ℤ) (rest all : List (ℤ × ℤ)) : Type 0 where
  pub ascending : (later : List (ℤ × ℤ)) → AscendsFrom held.0 later → IsCanonical (made ++ later)
  pub members : (n : ℤ) → (is_member made n || (is_within held n || is_member rest n)) ≡ is_member all n
  pub piece : IsPiece held
  pub rising : RisesFrom held.0 rest

-- the first piece is held
pub AreUnited-first : (first : ℤ × ℤ) (rest all : List (ℤ × ℤ)) → all ≡ first ∷ rest → RisesFrom least all → AreUnited [] first rest all
AreUnited-first first rest all is rising =
    let rises : RisesFrom least (first ∷ rest) = subst (RisesFrom least) is rising in
    record {
      ascending = λ later a. AscendsFrom-lower least first.0 later rises.0 a;
      members = λ n. ap (λ pieces. is_member pieces n) (sym is);
      piece = rises.1;
      rising = rises.2;
    }

-- two pieces that overlap or touch, as one
within_both : (held next : ℤ × ℤ) (last n : ℤ) → held.0 ≤ℤ next.0 → held.0 ≤ℤ held.1 → next.0 ≤ℤ next.1 → next.0 ≤ℤ (held.1 +ℤ pos 1) → held.1 ≤ℤ last → next.1 ≤ℤ last → (held.1 <ℤ last → last ≡ next.1) → is_within (held.0, last) n ≡ (is_within held n || is_within next n)
within_both held next last n h a b touch c d e =
    by_lt_z n held.0
    (λ below. rw (is_within-below (held.0, last) n below, is_within-below held n below, is_within-below next n (omega (arith, ints))) refl)
    (λ from. by_lt_z held.1 n
    (λ above. by_lt_z last n
    (λ high. rw (is_within-above (held.0, last) n high, is_within-above held n above, is_within-above next n (omega (arith, ints))) refl)
    (λ low. rw (is_within-inside (held.0, last) n from low, is_within-above held n above, is_within-inside next n (omega (arith, ints)) (to_next low (e (omega (arith, ints))))) refl))
    (λ low. rw (is_within-inside (held.0, last) n from (omega (arith, ints)), is_within-inside held n from low) refl))
  where
    to_next : n ≤ℤ last → last ≡ next.1 → n ≤ℤ next.1
    to_next low same = subst (λ m. n ≤ℤ m) same low

or_assoc : (a b c : Bool) → ((a || b) || c) ≡ (a || (b || c))
or_assoc true b c = refl
or_assoc false b c = refl

RisesFrom-lower : (s t : ℤ) (pieces : List (ℤ × ℤ)) → s ≤ℤ t → RisesFrom t pieces → RisesFrom s pieces
RisesFrom-lower s t [] h r = tt
RisesFrom-lower s t (piece ∷ pieces) h r = let low = r.0 in (omega (arith, ints), r.1, r.2)

-- the next piece overlaps the held one or touches it
pub AreUnited-joined : (made : List (ℤ × ℤ)) (held next : ℤ × ℤ) (last : ℤ) (rest later all : List (ℤ × ℤ)) → rest ≡ next ∷ later → AreUnited made held rest all → next.0 ≤ℤ (held.1 +ℤ pos 1) → held.1 ≤ℤ last → next.1 ≤ℤ last → (held.1 <ℤ last → last ≡ next.1) → AreUnited made (held.0, last) later all
AreUnited-joined made held next last rest later all is u touch c d e =
    let rising : RisesFrom held.0 (next ∷ later) = subst (RisesFrom held.0) is u.rising in
    let low = u.piece.low in let some = u.piece.some in let top = u.piece.high in
    let start = rising.0 in let next_some = rising.1.some in let next_top = rising.1.high in
    record {
      ascending = u.ascending;
      members = λ n.
          ap (λ b. is_member made n || (b || is_member later n)) (within_both held next last n start some next_some touch c d e)
          ∙ ap (λ b. is_member made n || b) (or_assoc (is_within held n) (is_within next n) (is_member later n))
          ∙ ap (λ pieces. is_member made n || (is_within held n || is_member pieces n)) (sym is)
          ∙ u.members n;
      piece = record { low = low; some = omega (arith, ints); high = by_lt_z held.1 last (λ h. subst (λ m. m ≤ℤ greatest) (sym (e h)) next_top) (λ h. omega (arith, ints)) };
      rising = RisesFrom-lower held.0 next.0 later start rising.2;
    }

-- the next piece comes after the held one
pub AreUnited-apart : (made : List (ℤ × ℤ)) (held next : ℤ × ℤ) (rest later all : List (ℤ × ℤ)) → rest ≡ next ∷ later → AreUnited made held rest all → (held.1 +ℤ pos 1) <ℤ next.0 → AreUnited (made ++ held ∷ []) next later all
AreUnited-apart made held next rest later all is u apart =
    let rising : RisesFrom held.0 (next ∷ later) = subst (RisesFrom held.0) is u.rising in
    record {
      ascending = λ more a.
          subst IsCanonical (sym (append_assoc made (held ∷ []) more))
          (u.ascending (held ∷ more) (omega (arith, ints), u.piece.some, u.piece.high, AscendsFrom-lower (held.1 +ℤ pos 2) next.0 more (omega (arith, ints)) a));
      members = λ n.
          ap (λ b. b || (is_within next n || is_member later n)) (is_member-append made (held ∷ []) n ∙ ap (λ b. is_member made n || b) (or_false (is_within held n)))
          ∙ or_assoc (is_member made n) (is_within held n) (is_within next n || is_member later n)
          ∙ ap (λ pieces. is_member made n || (is_within held n || is_member pieces n)) (sym is)
          ∙ u.members n;
      piece = rising.1;
      rising = rising.2;
    }
  where
    or_false : (a : Bool) → (a || false) ≡ a
    or_false true = refl
    or_false false = refl

-- no piece is left
pub AreUnited-all : (made : List (ℤ × ℤ)) (held : ℤ × ℤ) (rest all : List (ℤ × ℤ)) → length rest ≡ 0 → AreUnited made held rest all → IsCanonical (made ++ held ∷ []) × ((n : ℤ) → is_member (made ++ held ∷ []) n ≡ is_member all n)
AreUnited-all made held (piece ∷ rest) all is u = absurd (omega arith)
AreUnited-all made held [] all is u = (
  u.ascending (held ∷ []) (omega (arith, ints), u.piece.some, u.piece.high, tt),
  λ n. is_member-append made (held ∷ []) n ∙ u.members n,
)

-- ---- the pieces of several sets
pub pieces_of_set : (start : ℤ) (pieces : List (ℤ × ℤ)) → least ≤ℤ start → AscendsFrom start pieces → All IsPiece pieces
pieces_of_set start [] low a k d h = absurd (omega arith)
pieces_of_set start (piece ∷ pieces) low a zero d h = record { low = let b = a.0 in omega (arith, ints); some = a.1; high = a.2 }
pieces_of_set start (piece ∷ pieces) low a (suc k) d h =
    let b = a.0 in let e = a.1 in
    pieces_of_set (piece.1 +ℤ pos 2) pieces (omega (arith, ints)) a.3 k d (omega arith)

is_member-any : (pieces : List (ℤ × ℤ)) (n : ℤ) → is_member pieces n ≡ list_any (λ piece. is_within piece n) pieces
is_member-any [] n = refl
is_member-any (piece ∷ pieces) n = ap (λ b. is_within piece n || b) (is_member-any pieces n)

-- pieces in another order have the same members
pub is_member-permutation : (xs ys : List (ℤ × ℤ)) (n : ℤ) → IsPermutation xs ys → is_member ys n ≡ is_member xs n
is_member-permutation xs ys n moved = is_member-any ys n ∙ sym (list_any-IsPermutation (λ piece. is_within piece n) xs ys moved) ∙ sym (is_member-any xs n)

-- one more set
pub members_more :
    (made set : List (ℤ × ℤ)) (sets : List (List (ℤ × ℤ))) (i : ℕ) (n : ℤ) → i < length sets → set ≡ get_or sets i set
    → is_member made n ≡ list_any (λ set. is_member set n) (take i sets) → is_member (made ++ set) n ≡ list_any (λ set. is_member set n) (take (i + 1) sets)
members_more made set sets i n l is e =
    is_member-append made set n
    ∙ ap (λ b. b || is_member set n) e
    ∙ ap (λ xs. list_any (λ set. is_member set n) (take i sets) || is_member xs n) is
    ∙ sym (list_any_more (λ set. is_member set n) sets i set l)
