-- Which scalar a document tells where only scalars may stand.
use Rattle.std.specs.Prelude.{◌⊎◌}
use Rattle.cue_lattice.specs.declared.scalar.Scalar.{Scalar}
use Rattle.cue_lattice.specs.Path.{Path}
use Rattle.cue_lattice.specs.Question.{Refusals}
use Rattle.cue_scalars.specs.Scalars.{IsScalarBefore}
use Rattle.cue_report.specs.Gaps.{MayScalarStand, IsChosenScalar}

-- which scalar is picked at a place
abbrev pub Pick : Type 1
Pick = Refusals → Path → Scalar → Type 0

-- the first scalar that may stand: null, false, true, integers upwards, texts by their bytes
abbrev pub IsFirstPick : Pick
IsFirstPick refuses path scalar =
    MayScalarStand refuses path scalar
    × ((other : Scalar) → MayScalarStand refuses path other → ¬ IsScalarBefore other scalar)

-- the chosen scalar; or, where none is chosen, the first one
abbrev pub IsPicked : Pick
IsPicked refuses path scalar =
    IsChosenScalar refuses path scalar
    ⊎ (((other : Scalar) → ¬ IsChosenScalar refuses path other) × IsFirstPick refuses path scalar)
