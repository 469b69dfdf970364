-- What is not a single value yet, told by what is refused at each path.
use Rattle.std.specs.Prelude.{◌≡◌, ◌↔◌, ◌⊎◌, IsTrue, List}
use Rattle.cue_lattice.specs.declared.scalar.Scalar.{Scalar}
use Rattle.cue_lattice.specs.Path.{Path}
use Rattle.cue_lattice.specs.Question.{Refusals, may_be, usual, struct, list, level_at_most}
use Rattle.cue_lattice.specs.Scalar.{IsScalar}
use Rattle.cue_report.specs.Answers.{IsDemanded, HasNoScalar, HasNoValue, IsNotAllowed}
use Rattle.cue_report.specs.Listing.{Lists}
use Rattle.cue_report.specs.declared.gap.Gap.{Gap}

-- a field is asked for, but not given: its level may not be 0, and it may be 1
abbrev pub IsMissing : Refusals → Path → Type 0
IsMissing refuses path = refuses path (level_at_most 0) × (¬ refuses path (level_at_most 1))

-- the scalar may stand, or is one of the usual ones
abbrev pub MayScalarStand : Refusals → Path → Scalar → Type 0
MayScalarStand refuses path scalar = IsScalar scalar × (¬ refuses path (may_be scalar))

abbrev pub IsUsual : Refusals → Path → Scalar → Type 0
IsUsual refuses path scalar = IsScalar scalar × (¬ refuses path (usual scalar))

-- P holds of this scalar and of no other
abbrev pub IsOnly : (Scalar → Type 0) → Scalar → Type 0
IsOnly P scalar = P scalar × ((other : Scalar) → P other → other ≡ scalar)

-- the chosen scalar: the only usual one, or, where none is usual, the only one that may stand
abbrev pub IsChosenScalar : Refusals → Path → Scalar → Type 0
IsChosenScalar refuses path scalar =
    IsOnly (IsUsual refuses path) scalar
    ⊎ (((other : Scalar) → ¬ IsUsual refuses path other) × IsOnly (MayScalarStand refuses path) scalar)

-- anything may stand
abbrev pub IsFreeRow : Refusals → Path → Type 0
IsFreeRow refuses path =
    ((scalar : Scalar) → ¬ refuses path (may_be scalar)) × (¬ refuses path struct)
    × (¬ refuses path list)

-- some scalar may stand, but no struct and no list, and no scalar is chosen
abbrev pub HasNoChoice : Refusals → Path → Type 0
HasNoChoice refuses path =
    (¬ HasNoScalar refuses path) × refuses path struct × refuses path list
    × ((scalar : Scalar) → ¬ IsChosenScalar refuses path scalar)

-- A demanded path without a conflict is a gap where it is missing, or where no single value is
-- told.
pub record IsReportGap (refuses : Refusals) (gap : Gap) : Type 0 where
  pub demanded : IsDemanded refuses gap.path
  pub has_value : ¬ HasNoValue refuses gap.path
  pub allowed : ¬ IsNotAllowed refuses gap.path
  pub missing : IsTrue gap.missing ↔ IsMissing refuses gap.path
  pub cause : IsMissing refuses gap.path ⊎ (IsFreeRow refuses gap.path ⊎ HasNoChoice refuses gap.path)

-- all gaps, in the order of their paths
abbrev pub AreGaps : Refusals → List Gap → Type 0
AreGaps refuses = Lists (λ gap. gap.path) (IsReportGap refuses)
