-- What holds of each item of a list.
use Rattle.std.proofs.Common.{List, [], ◌∷◌, ◌++◌, map}
use Rattle.std.specs.List.{AllByRecursion}

module _ {X : Type 0} where
  pub all_append : (P : X → Type 0) (xs ys : List X) → AllByRecursion P xs → AllByRecursion P ys → AllByRecursion P (xs ++ ys)
  all_append P [] ys p q = q
  all_append P (x ∷ xs) ys p q = (p.0, all_append P xs ys p.1 q)

  pub all_front : (P : X → Type 0) (xs ys : List X) → AllByRecursion P (xs ++ ys) → AllByRecursion P xs
  all_front P [] ys p = tt
  all_front P (x ∷ xs) ys p = (p.0, all_front P xs ys p.1)

  pub all_back : (P : X → Type 0) (xs ys : List X) → AllByRecursion P (xs ++ ys) → AllByRecursion P ys
  all_back P [] ys p = p
  all_back P (x ∷ xs) ys p = all_back P xs ys p.1

  pub all_weaker : (P Q : X → Type 0) (xs : List X) → ((x : X) → P x → Q x) → AllByRecursion P xs → AllByRecursion Q xs
  all_weaker P Q [] f p = tt
  all_weaker P Q (x ∷ xs) f p = (f x p.0, all_weaker P Q xs f p.1)

  pub all_both : (P Q S : X → Type 0) (xs : List X) → ((x : X) → P x → Q x → S x) → AllByRecursion P xs → AllByRecursion Q xs → AllByRecursion S xs
  all_both P Q S [] f p q = tt
  all_both P Q S (x ∷ xs) f p q = (f x p.0 q.0, all_both P Q S xs f p.1 q.1)

module _ {X Y : Type 0} (f : X → Y) where
  -- what holds of each image
  pub all_map : (P : Y → Type 0) (xs : List X) → AllByRecursion (λ x. P (f x)) xs → AllByRecursion P (map f xs)
  all_map P [] p = tt
  all_map P (x ∷ xs) p = (p.0, all_map P xs p.1)

  pub all_mapped : (P : Y → Type 0) (xs : List X) → AllByRecursion P (map f xs) → AllByRecursion (λ x. P (f x)) xs
  all_mapped P [] p = tt
  all_mapped P (x ∷ xs) p = (p.0, all_mapped P xs p.1)
