-- What the prover needs of the fields.
use Rattle.std.specs.Prelude.{◌≡◌, ◌+◌, ◌<◌, ◌^◌, ℕ, List, length}
use Rattle.std.specs.List.{AllByRecursion}
use Rattle.cue_journal.specs.Blocks.{FitsInBlock}
use Rattle.cue_journal.specs.Lists.{memory_of_pieces}

pub record AreSound (given_up size : ℕ) (kept : List (List ℕ)) : Type 0 where
  pub fit : AllByRecursion FitsInBlock kept
  pub count : given_up + length kept < 2 ^ 64
  pub size_is : size ≡ memory_of_pieces kept
