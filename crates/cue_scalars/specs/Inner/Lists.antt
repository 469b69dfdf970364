-- What lists of terms and of sets have.
use Rattle.std.specs.Prelude.{◌≡◌, Bool, true, List}
use Rattle.std.specs.List.{list_any}
use Rattle.cue_lattice.specs.declared.scalar.Scalar.{Scalar}
use Rattle.cue_scalars.specs.Scalars.{members}
use Rattle.cue_scalars.specs.Pairs.{ScalarMembers}
use Rattle.cue_scalars.specs.declared.scalar_set.ScalarSet.{ScalarSet}
use Rattle.cue_scalars.specs.declared.valued.Valued.{Valued}

-- the value of a term
abbrev pub value_of : Bool × Valued → ScalarMembers
value_of term = members term.1.value

-- each member of one of the small sets is a member of one of the large sets
abbrev pub AreWithin : List ScalarSet → List ScalarSet → Type 0
AreWithin small large =
    (scalar : Scalar) → list_any (λ set. members set scalar) small ≡ true
    → list_any (λ set. members set scalar) large ≡ true
