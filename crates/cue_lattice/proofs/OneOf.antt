-- One of a list that is put together.
use Rattle.std.proofs.Common.{◌≡◌, ◌↔◌, ◌⊎◌, inl, inr, ⊎_elim, ℕ, List, [], ◌∷◌, ◌++◌, take, drop, subst, ap, ◌∙◌}
use Rattle.std.proofs.lemmas.List.{take-append-drop}
use Rattle.cue_lattice.specs.OneOf.{OneOf}

-- one of the first or one of the others
pub one_of-append : {X : Type 0} (P : X → Type 0) (xs ys : List X) → OneOf P (xs ++ ys) ↔ (OneOf P xs ⊎ OneOf P ys)
one_of-append P [] ys = (λ h. inr h, ⊎_elim (λ h. absurd h) (λ h. h))
one_of-append P (x ∷ xs) ys =
    let rest = one_of-append P xs ys in (
      ⊎_elim (λ h. inl (inl h)) (λ h. ⊎_elim (λ g. inl (inr g)) (λ g. inr g) (rest.0 h)),
      ⊎_elim (⊎_elim (λ h. inl h) (λ h. inr (rest.1 (inl h)))) (λ h. inr (rest.1 (inr h))),
    )

-- one more element at the end
pub one_of-push : {X : Type 0} (P : X → Type 0) (xs : List X) (x : X) → OneOf P (xs ++ x ∷ []) ↔ (OneOf P xs ⊎ P x)
one_of-push P xs x =
    let both = one_of-append P xs (x ∷ []) in (
      λ h. ⊎_elim (λ g. inl g) (λ g. ⊎_elim (λ k. inr k) (λ k. absurd k) g) (both.0 h),
      ⊎_elim (λ g. both.1 (inl g)) (λ g. both.1 (inr (inl g))),
    )

-- one of the two parts of a list that is cut
pub one_of-halves :
    {X : Type 0} (P : X → Type 0) (xs : List X) (k : ℕ) (front back : List X) → front ≡ take k xs → back ≡ drop k xs
    → OneOf P xs ↔ (OneOf P front ⊎ OneOf P back)
one_of-halves {X} P xs k front back is_front is_back =
    let whole : front ++ back ≡ xs = ap (λ (f : List X). f ++ back) is_front ∙ ap (λ (b : List X). take k xs ++ b) is_back ∙ take-append-drop k xs in
    subst (λ (l : List X). OneOf P l ↔ (OneOf P front ⊎ OneOf P back)) whole (one_of-append P front back)

-- a part that the other one leaves as it is stands for both
pub one_of-as_it_was :
    {X : Type 0} (P : X → Type 0) (xs front back : List X) (left right : X)
    → OneOf P xs ↔ (OneOf P front ⊎ OneOf P back) → P left ↔ OneOf P front → P right ↔ OneOf P back → (P right → P left)
    → P left ↔ OneOf P xs
one_of-as_it_was P xs front back left right both is_left is_right kept = (
  λ h. both.1 (inl (is_left.0 h)),
  λ h. ⊎_elim (λ f. is_left.1 f) (λ b. kept (is_right.1 b)) (both.0 h),
)

-- what is met of both parts stands for both
pub one_of-met :
    {X : Type 0} (P : X → Type 0) (xs front back : List X) (left right : X) {M : Type 0}
    → OneOf P xs ↔ (OneOf P front ⊎ OneOf P back) → P left ↔ OneOf P front → P right ↔ OneOf P back → M ↔ (P left ⊎ P right)
    → M ↔ OneOf P xs
one_of-met P xs front back left right both is_left is_right met = (
  λ m. ⊎_elim (λ l. both.1 (inl (is_left.0 l))) (λ r. both.1 (inr (is_right.0 r))) (met.0 m),
  λ h. ⊎_elim (λ f. met.1 (inl (is_left.1 f))) (λ b. met.1 (inr (is_right.1 b))) (both.0 h),
)
