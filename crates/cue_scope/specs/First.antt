-- The first of a list.
use Rattle.std.specs.Prelude.{◌≡◌, List, ◌∷◌}

pub record IsFirstName {A : Type 0} (x : A) (xs : List A) : Type 0 where
  pub rest : List A
  pub is : xs ≡ x ∷ rest
