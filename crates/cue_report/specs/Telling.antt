-- What is written piece by piece, as the bytes of a text or the items of a list.
use Rattle.std.specs.Prelude.{ℕ, List, Option}

-- what was written so far: how many pieces, and which, where they are known
pub record Tally (X : Type 0) : Type 0 where
  pub count : ℕ
  pub known : Option (List X)
