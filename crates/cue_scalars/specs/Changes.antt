-- What becomes of a set of scalars into which another one is unified.
use Rattle.std.specs.Prelude.{◌≡◌, ◌↔◌, ◌⊎◌}
use Rattle.cue_lattice.specs.declared.scalar.Scalar.{Scalar}
use Rattle.cue_lattice.specs.Narrowed.{value_after}
use Rattle.cue_sets.specs.Changes as texts
use Rattle.cue_scalars.specs.declared.scalar_change.ScalarChange.{ScalarChange}
use Rattle.cue_scalars.specs.declared.scalar_set.ScalarSet.{ScalarSet}
use Rattle.cue_scalars.specs.Scalars.{RefusesScalar}

-- a change makes one set of another
pub record IsScalarChanged (change : ScalarChange) (before after : ScalarSet) : Type 0 where
  pub null : after.null ≡ change.null
  pub no : after.no ≡ change.no
  pub yes : after.yes ≡ change.yes
  pub ints : after.ints ≡ value_after before.ints change.ints
  pub texts : texts.IsChanged change.texts before.texts after.texts

-- the set that a change makes refuses exactly what one of two sets does
abbrev pub UnifiesScalars : ScalarChange → ScalarSet → ScalarSet → Type 0
UnifiesScalars change before other =
    (after : ScalarSet) → IsScalarChanged change before after
    → (scalar : Scalar)
    → RefusesScalar after scalar ↔ (RefusesScalar before scalar ⊎ RefusesScalar other scalar)
