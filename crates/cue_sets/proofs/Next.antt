-- Which of the first texts of two lists comes next.
use Rattle.std.proofs.Common.{◌≡◌, ℕ, Bool, true, false, List, ◌∷◌, ◌++◌, drop, refl, sym, ap, ◌∙◌, subst, arith}
use Rattle.std.specs.declared.cmp.Ordering.{Ordering}
use Rattle.std.specs.declared.cmp.Ordering.TheVariants.{Less, Equal, Greater}
use Rattle.cue_sets.specs.Texts.{text_cmp}
use Rattle.cue_sets.specs.TextLaws.{same_from_equal}
use Rattle.cue_sets.specs.Inner.Merge.{prepended_if, merged_at, merged_from, merge_texts}
use Rattle.cue_sets.specs.Inner.Walk.{next_if, IsNext}

prepended : (b : Bool) (x : List ℕ) (xs more : List (List ℕ)) → prepended_if b x more ≡ next_if b (x ∷ xs) ++ more
prepended true x xs more = refl
prepended false x xs more = refl

next_of : (x y : List ℕ) (xs ys : List (List ℕ)) → IsNext (text_cmp x y) (x ∷ xs) (y ∷ ys)
next_of x y xs ys = by (text_cmp x y) refl where
  at : (kept : Bool → Bool → Bool) (o : Ordering) → text_cmp x y ≡ o → merge_texts kept (x ∷ xs) (y ∷ ys) ≡ merged_at kept x (merge_texts kept xs) o y ys (merge_texts kept (x ∷ xs) ys)
  at kept o e = ap (λ o. merged_at kept x (merge_texts kept xs) o y ys (merged_from kept x (merge_texts kept xs) ys)) e

  by : (o : Ordering) → text_cmp x y ≡ o → IsNext o (x ∷ xs) (y ∷ ys)
  by Less e = (omega arith, λ kept. at kept Less e ∙ prepended (kept true false) x xs _)
  by Equal e = ((omega arith, omega arith), λ kept. at kept Equal e ∙ ap (λ t. prepended_if (kept true true) t (merge_texts kept xs ys)) (same_from_equal x y e) ∙ prepended (kept true true) y ys _)
  by Greater e = (omega arith, λ kept. at kept Greater e ∙ prepended (kept false true) y ys _)

-- where both lists have a text
pub next_of_first : (x y : List ℕ) (left right : List (List ℕ)) → left ≡ x ∷ drop 1 left → right ≡ y ∷ drop 1 right → IsNext (text_cmp x y) left right
next_of_first x y left right e f = subst (λ l. IsNext (text_cmp x y) l right) (sym e) (subst (λ r. IsNext (text_cmp x y) (x ∷ drop 1 left) r) (sym f) (next_of x y _ _))
