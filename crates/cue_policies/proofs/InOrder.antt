-- Texts in order, each once.
use Rattle.std.proofs.Common.{◌≡◌, ◌↔◌, ◌⊎◌, ℕ, inl, inr, ⊎_elim, Bool, true, false, List, [], ◌∷◌, refl, sym, ap, subst, ◌∙◌, arith}
use Rattle.std.specs.Prelude.{cond}
use Rattle.std.specs.Cmp.Lexicographic.{slice_cmp}
use Rattle.std.specs.List.{dedup, dedup_from}
use Rattle.std.specs.List.Sorted.{IsSorted, IsStrictlySortedBy, IsPermutation}
use Rattle.std.specs.Ordering.{nat_cmp, is_eq, eq_by_cmp}
use Rattle.std.specs.declared.cmp.Ordering.{Ordering}
use Rattle.std.specs.declared.cmp.Ordering.TheVariants.{Less, Equal, Greater}
use Rattle.std.proofs.lemmas.Bool.{cond_both}
use Rattle.std.proofs.lemmas.Cmp.{nat_list_cmp_total}
use Rattle.std.proofs.lemmas.List.Kept.{IsStrictlySortedBy-dedup}
use Rattle.std.proofs.lemmas.List.Sorted.{IsPermutation-sym}
use Rattle.std.proofs.lemmas.Map.Lookups.{exact_bytes}
use Rattle.cue_lattice.specs.OneOf.{OneOf}
use Rattle.cue_table.proofs.ByHalves.{one_of_permutation}

-- both texts are one
abbrev pub same_text : List ℕ → List ℕ → Bool
same_text = eq_by_cmp (slice_cmp nat_cmp)

equal_only : (o : Ordering) → is_eq o ≡ true → o ≡ Equal
equal_only Less e = cc
equal_only Equal e = refl
equal_only Greater e = cc

same_is : (a b : List ℕ) → same_text a b ≡ true → a ≡ b
same_is a b e = exact_bytes a b (equal_only (slice_cmp nat_cmp a b) e)

-- what is left where equal neighbours become one
left_from : (xs : List (List ℕ)) (k text : List ℕ) → OneOf (λ y. y ≡ text) (dedup_from same_text k xs) ↔ ((k ≡ text) ⊎ OneOf (λ y. y ≡ text) xs)
left_from [] k text = (λ h. h, λ h. h)
left_from (x ∷ xs) k text =
    cond_both (same_text x k) (dedup_from same_text k xs) (k ∷ dedup_from same_text x xs) (λ kept. OneOf (λ y. y ≡ text) kept ↔ ((k ≡ text) ⊎ OneOf (λ y. y ≡ text) (x ∷ xs)))
    (λ e. let rest = left_from xs k text in let same = same_is x k e in (
      λ h. ⊎_elim (λ f. inl f) (λ o. inr (inr o)) (rest.0 h),
      λ h. rest.1 (⊎_elim (λ f. inl f) (λ o. ⊎_elim (λ f. inl (sym same ∙ f)) (λ p. inr p) o) h),
    ))
    (λ e. let rest = left_from xs x text in (
      λ h. ⊎_elim (λ f. inl f) (λ o. inr (rest.0 o)) h,
      λ h. ⊎_elim (λ f. inl f) (λ o. inr (rest.1 o)) h,
    ))

left : (xs : List (List ℕ)) (text : List ℕ) → OneOf (λ y. y ≡ text) (dedup same_text xs) ↔ OneOf (λ y. y ≡ text) xs
left [] text = (λ h. h, λ h. h)
left (x ∷ xs) text = left_from xs x text

pub kept_order : (sorted kept : List (List ℕ)) → IsSorted (slice_cmp nat_cmp) sorted → kept ≡ dedup same_text sorted → IsStrictlySortedBy (slice_cmp nat_cmp) kept
kept_order sorted kept h is = subst (IsStrictlySortedBy (slice_cmp nat_cmp)) (sym is) (IsStrictlySortedBy-dedup nat_list_cmp_total (λ x y. refl) sorted h)

pub kept_same : (old sorted kept : List (List ℕ)) (text : List ℕ) → IsPermutation old sorted → kept ≡ dedup same_text sorted → OneOf (λ y. y ≡ text) kept ↔ OneOf (λ y. y ≡ text) old
kept_same old sorted kept text moved is = (
  λ h. one_of_permutation (λ y. y ≡ text) sorted old (IsPermutation-sym old sorted moved) ((left sorted text).0 (subst (OneOf (λ y. y ≡ text)) is h)),
  λ h. subst (OneOf (λ y. y ≡ text)) (sym is) ((left sorted text).1 (one_of_permutation (λ y. y ≡ text) old sorted moved h)),
)
