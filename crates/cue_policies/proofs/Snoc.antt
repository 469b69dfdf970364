-- Lists that are the same up to their last element.
use Rattle.std.proofs.Common.{◌≡◌, List, [], ◌∷◌, ◌++◌, refl, sym, ap}

module _ {X : Type 0} where
  first : X → List X → X
  first d [] = d
  first d (x ∷ xs) = x

  rest : List X → List X
  rest [] = []
  rest (x ∷ xs) = xs

  empty_last : (xs : List X) (a : X) → xs ++ a ∷ [] ≡ [] → ⊥
  empty_last [] a e = cc
  empty_last (x ∷ xs) a e = cc

  pub stem_same : (xs ys : List X) (a b : X) → xs ++ a ∷ [] ≡ ys ++ b ∷ [] → xs ≡ ys
  unfolding first rest
  stem_same [] [] a b e = refl
  stem_same [] (y ∷ ys) a b e = absurd (empty_last ys b (sym (ap rest e)))
  stem_same (x ∷ xs) [] a b e = absurd (empty_last xs a (ap rest e))
  stem_same (x ∷ xs) (y ∷ ys) a b e =
      let head : x ≡ y = ap (first x) e in
      let tail = stem_same xs ys a b (ap rest e) in
      λ i. head i ∷ tail i

  pub last_same : (xs ys : List X) (a b : X) → xs ++ a ∷ [] ≡ ys ++ b ∷ [] → a ≡ b
  unfolding first rest
  last_same [] [] a b e = ap (first a) e
  last_same [] (y ∷ ys) a b e = absurd (empty_last ys b (sym (ap rest e)))
  last_same (x ∷ xs) [] a b e = absurd (empty_last xs a (ap rest e))
  last_same (x ∷ xs) (y ∷ ys) a b e = last_same xs ys a b (ap rest e)
