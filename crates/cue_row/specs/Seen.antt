-- A set of scalars that is read where it is kept.
use Rattle.std.specs.Prelude.{Bool, ℕ, ℤ, List}
use Rattle.cue_scalars.specs.declared.scalar_set.ScalarSet.{ScalarSet}

-- whether null, false and true are members; the pieces of the integers; the texts
abbrev pub set_of : Bool × Bool × Bool → List (ℤ × ℤ) → Bool × List (List ℕ) → ScalarSet
set_of plain pieces texts = record {
  null = plain.0;
  no = plain.1;
  yes = plain.2;
  ints = pieces;
  texts = texts;
}
