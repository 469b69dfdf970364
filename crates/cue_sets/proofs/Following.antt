-- Pieces that come after others.
use Rattle.std.proofs.Common.{◌≡◌, ℕ, zero, suc, ◌+◌, Bool, true, false, ◌||◌, List, [], ◌∷◌, ◌++◌, length, get_or, ℤ, pos, ◌+ℤ◌, ◌≤ℤ◌, refl, ap, ◌∙◌, subst, arith}
use Rattle.cue_sets.specs.Pieces.{is_within, is_member, least, AscendsFrom, IsCanonical}

-- pieces that begin later than is asked
later_start : (start from : ℤ) (pieces : List (ℤ × ℤ)) (first : ℤ × ℤ) → AscendsFrom start pieces → first ≡ get_or pieces 0 first → from ≤ℤ first.0 → AscendsFrom from pieces
later_start start from [] first a e h = tt
later_start start from (piece ∷ pieces) first a e h = (subst (λ (p : ℤ × ℤ). from ≤ℤ p.0) e h, a.1, a.2, a.3)

-- the pieces of the one, and then those of the other, ascend
pub ascends_after :
    (start : ℤ) (left right : List (ℤ × ℤ)) (i : ℕ) (last first : ℤ × ℤ) → AscendsFrom start left → IsCanonical right → i + 1 ≡ length left
    → last ≡ get_or left i last → first ≡ get_or right 0 first → (last.1 +ℤ pos 2) ≤ℤ first.0 → AscendsFrom start (left ++ right)
ascends_after start [] right i last first a b e f g h = absurd (omega arith)
ascends_after start (x ∷ []) right zero last first a b e f g h =
    (a.0, a.1, a.2, later_start least (x.1 +ℤ pos 2) right first b g (subst (λ (p : ℤ × ℤ). (p.1 +ℤ pos 2) ≤ℤ first.0) f h))
ascends_after start (x ∷ []) right (suc i) last first a b e f g h = absurd (omega arith)
ascends_after start (x ∷ y ∷ left) right zero last first a b e f g h = absurd (omega arith)
ascends_after start (x ∷ y ∷ left) right (suc i) last first a b e f g h =
    (a.0, a.1, a.2, ascends_after (x.1 +ℤ pos 2) (y ∷ left) right i last first a.3 b (omega arith) f g h)

-- the members of two lists of pieces as one
pub is_member-append : (left right : List (ℤ × ℤ)) (n : ℤ) → is_member (left ++ right) n ≡ (is_member left n || is_member right n)
is_member-append [] right n = refl
is_member-append (x ∷ left) right n = ap (λ b. is_within x n || b) (is_member-append left right n) ∙ assoc (is_within x n) (is_member left n) (is_member right n) where
  assoc : (a b c : Bool) → (a || (b || c)) ≡ ((a || b) || c)
  assoc true b c = refl
  assoc false b c = refl
