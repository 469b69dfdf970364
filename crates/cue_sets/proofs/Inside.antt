-- A sweep over the numbers from the least integer upwards, which asks whether all members of a set are in another.
use Rattle.std.proofs.Common.{◌≡◌, Bool, true, false, not, ◌&&◌, List, ℤ, pos, ◌+ℤ◌, ◌≤ℤ◌, ◌<ℤ◌, refl, sym, ◌∙◌, arith}
use Rattle.std.proofs.lemmas.Bool.{false≢true}
use Rattle.std.proofs.lemmas.Int.{ints, by_lt_z}
use Rattle.cue_sets.specs.Pieces.{is_member, least, greatest, IsCanonical}
use Rattle.cue_sets.specs.PieceLaws.{is_member-below, is_member-above}
use Rattle.cue_sets.proofs.Steps.{IsStep, le_le}
use Rattle.cue_sets.proofs.Swept.{IsAhead, IsAhead-none, by_place}

-- each member of the left set below `from` is one of the right set
abbrev pub AreInside : List (ℤ × ℤ) → List (ℤ × ℤ) → ℤ → Type 0
AreInside left right from = (n : ℤ) → n <ℤ from → is_member left n ≡ true → is_member right n ≡ true

-- two sets, swept up to `from`
pub record IsInside (left right : List (ℤ × ℤ)) (from : ℤ) (on_left on_right : List (ℤ × ℤ)) : Type 0 where
  pub inside : AreInside left right from
  pub ahead_left : IsAhead from left on_left
  pub ahead_right : IsAhead from right on_right

-- nothing is swept yet
pub IsInside-none : (left right : List (ℤ × ℤ)) → IsCanonical left → IsCanonical right → IsInside left right least left right
IsInside-none left right l r = record {
  inside = λ n h m. absurd (false≢true (sym (is_member-below least left n l h) ∙ m));
  ahead_left = IsAhead-none left l;
  ahead_right = IsAhead-none right r;
}

implied : (a b : Bool) → (a && not b) ≡ false → a ≡ true → b ≡ true
implied true true h e = refl
implied true false h e = absurd (false≢true (sym h))
implied false b h e = absurd (false≢true e)

both : (a b : Bool) → (a && not b) ≡ true → (a ≡ true) × (b ≡ false)
both true true h = absurd (false≢true h)
both true false h = (refl, refl)
both false b h = absurd (false≢true h)

-- one step: up to `last` both sets go on as they are at `from`
pub AreInside-more :
    (left right : List (ℤ × ℤ)) (from : ℤ) (on_left on_right : List (ℤ × ℤ)) (left_last right_last last : ℤ) (in_left in_right : Bool) (next : ℤ)
    → IsInside left right from on_left on_right → IsStep from left_last right_last last
    → ((n : ℤ) → from ≤ℤ n → n ≤ℤ left_last → is_member on_left n ≡ in_left)
    → ((n : ℤ) → from ≤ℤ n → n ≤ℤ right_last → is_member on_right n ≡ in_right)
    → (in_left && not in_right) ≡ false → next ≡ last +ℤ pos 1 → AreInside left right next
AreInside-more left right from on_left on_right left_last right_last last in_left in_right next s step l r none e n below m =
    by_place _ from last n
    (λ k. s.inside n k m)
    (λ low high.
    let to_left = le_le n last left_last high step.to_left in
    let to_right = le_le n last right_last high step.to_right in
    sym (s.ahead_right.members n low) ∙ r n low to_right ∙ implied in_left in_right none (sym (l n low to_left) ∙ s.ahead_left.members n low ∙ m))
    (λ above. absurd (omega (arith, ints)))

-- all is swept
pub AreInside-all : (left right : List (ℤ × ℤ)) → IsCanonical left → AreInside left right (greatest +ℤ pos 1) → (n : ℤ) → is_member left n ≡ true → is_member right n ≡ true
AreInside-all left right l s n m =
    by_lt_z greatest n (λ h. absurd (false≢true (sym (is_member-above least left n l h) ∙ m))) (λ h. s n (omega (arith, ints)) m)

-- a member of the left set alone
pub not_inside :
    (left right : List (ℤ × ℤ)) (from : ℤ) (on_left on_right : List (ℤ × ℤ)) (last : ℤ) (in_left in_right : Bool)
    → IsInside left right from on_left on_right → from ≤ℤ last
    → ((n : ℤ) → from ≤ℤ n → n ≤ℤ last → is_member on_left n ≡ in_left)
    → ((n : ℤ) → from ≤ℤ n → n ≤ℤ last → is_member on_right n ≡ in_right)
    → (in_left && not in_right) ≡ true → ((n : ℤ) → is_member left n ≡ true → is_member right n ≡ true) → ⊥
not_inside left right from on_left on_right last in_left in_right s h l r e all =
    let here : from ≤ℤ from = omega (arith, ints) in
    let member = all from (sym (s.ahead_left.members from here) ∙ l from here h ∙ (both in_left in_right e).0) in
    false≢true (sym (both in_left in_right e).1 ∙ sym (r from here h) ∙ s.ahead_right.members from here ∙ member)
