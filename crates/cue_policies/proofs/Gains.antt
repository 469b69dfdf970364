-- Loops that gain what holds of the elements that they went past.
use Rattle.std.proofs.Common.{◌≡◌, ◌⊎◌, ◌↔◌, ◌<◌, ◌≤◌, ◌+◌, ℕ, zero, suc, inl, inr, ⊎_elim, List, [], ◌∷◌, ◌++◌, sym, ap, subst, ◌∙◌, drop, get_or, length, arith}
use Rattle.std.proofs.lemmas.List.{drop_more, drop_all}
use Rattle.cue_lattice.specs.OneOf.{OneOf}
use Rattle.cue_lattice.proofs.OneOf.{one_of-push}
use Rattle.cue_policies.specs.Inner.Parts.{IsIn}

-- what was gained, or is still to come from an index on, is all
abbrev pub Gains : {X : Type 0} → Type 0 → (X → Type 0) → List X → ℕ → Type 0 → Type 0
Gains now F xs i all = (now ⊎ OneOf F (drop i xs)) ↔ all

pub gains_more : {X : Type 0} (now then : Type 0) (F : X → Type 0) (xs : List X) (i : ℕ) (x : X) (all : Type 0) → i < length xs → x ≡ get_or xs i x → (then ↔ (now ⊎ F x)) → Gains now F xs i all → Gains then F xs (i + 1) all
gains_more now then F xs i x all less e step g =
    let cut : drop i xs ≡ x ∷ drop (i + 1) xs = drop_more xs i x less ∙ ap (λ y. y ∷ drop (i + 1) xs) (sym e) in (
      λ h. ⊎_elim
          (λ t. ⊎_elim (λ n. g.0 (inl n)) (λ f. g.0 (inr (subst (OneOf F) (sym cut) (inl f)))) (step.0 t))
          (λ o. g.0 (inr (subst (OneOf F) (sym cut) (inr o)))) h,
      λ a. ⊎_elim (λ n. inl (step.1 (inl n)))
          (λ o. let p : OneOf F (x ∷ drop (i + 1) xs) = subst (OneOf F) cut o in
          ⊎_elim (λ f. inl (step.1 (inr f))) (λ r. inr r) p) (g.1 a),
    )

pub gains_done : {X : Type 0} (now : Type 0) (F : X → Type 0) (xs : List X) (i : ℕ) (all : Type 0) → length xs ≤ i → Gains now F xs i all → now ↔ all
gains_done now F xs i all done g =
    (λ n. g.0 (inl n), λ a. ⊎_elim (λ n. n) (λ o. absurd (subst (OneOf F) (drop_all i xs done) o)) (g.1 a))

-- at the start nothing was gained
pub gains_start : {X : Type 0} (now : Type 0) (F : X → Type 0) (xs : List X) → ¬ now → Gains now F xs 0 (OneOf F xs)
gains_start now F xs nothing = (λ h. ⊎_elim (λ n. absurd (nothing n)) (λ o. o) h, λ o. inr o)

-- or what was there, and something beside
pub gains_beside : {X : Type 0} (now old first : Type 0) (F : X → Type 0) (xs : List X) → now ↔ (old ⊎ first) → Gains now F xs 0 (old ⊎ (first ⊎ OneOf F xs))
gains_beside now old first F xs step = (
  λ h. ⊎_elim (λ n. ⊎_elim (λ o. inl o) (λ f. inr (inl f)) (step.0 n)) (λ o. inr (inr o)) h,
  λ h. ⊎_elim (λ o. inl (step.1 (inl o))) (λ g. ⊎_elim (λ f. inl (step.1 (inr f))) (λ o. inr o) g) h,
)

-- the element of a turn is one of the list
pub item_in : {X : Type 0} (xs : List X) (i : ℕ) (x : X) → i < length xs → x ≡ get_or xs i x → IsIn x xs
item_in [] i x less e = absurd (omega arith)
item_in (y ∷ ys) zero x less e = inl (sym e)
item_in (y ∷ ys) (suc i) x less e = inr (item_in ys i x (omega arith) e)

-- ---- an iterator whose list gets shorter
-- what was gained, or is left, is all
abbrev pub Left : {X : Type 0} → Type 0 → (X → Type 0) → List X → Type 0 → Type 0
Left now F rest all = (now ⊎ OneOf F rest) ↔ all

pub left_more : {X : Type 0} (now then : Type 0) (F : X → Type 0) (rest next : List X) (x : X) (all : Type 0) → rest ≡ x ∷ next → (then ↔ (now ⊎ F x)) → Left now F rest all → Left then F next all
left_more now then F rest next x all cut step g = (
  λ h. ⊎_elim
      (λ t. ⊎_elim (λ n. g.0 (inl n)) (λ f. g.0 (inr (subst (OneOf F) (sym cut) (inl f)))) (step.0 t))
      (λ o. g.0 (inr (subst (OneOf F) (sym cut) (inr o)))) h,
  λ a. ⊎_elim (λ n. inl (step.1 (inl n)))
      (λ o. let p : OneOf F (x ∷ next) = subst (OneOf F) cut o in
      ⊎_elim (λ f. inl (step.1 (inr f))) (λ r. inr r) p) (g.1 a),
)

pub left_done : {X : Type 0} (now : Type 0) (F : X → Type 0) (rest : List X) (all : Type 0) → rest ≡ [] → Left now F rest all → now ↔ all
left_done now F rest all done g =
    (λ n. g.0 (inl n), λ a. ⊎_elim (λ n. n) (λ o. absurd (subst (OneOf F) done o)) (g.1 a))

-- ---- lists that get longer
pub pushed : {X : Type 0} (P : X → Type 0) (old new : List X) (x : X) → new ≡ old ++ x ∷ [] → OneOf P new ↔ (OneOf P old ⊎ P x)
pushed P old new x e =
    let both = one_of-push P old x in
    (λ h. both.0 (subst (OneOf P) e h), λ h. subst (OneOf P) (sym e) (both.1 h))

pub none_in : {X : Type 0} (P : X → Type 0) (xs : List X) → xs ≡ [] → ¬ OneOf P xs
none_in P xs e h = subst (OneOf P) e h
