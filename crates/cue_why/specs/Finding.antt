-- What makes a finding: what layers have to refuse along a path, so that the report of the view of
-- all layers says of it what it says.
use Rattle.std.specs.Prelude.{◌⊎◌, ℕ}
use Rattle.cue_lattice.specs.Path.{Path}
use Rattle.cue_lattice.specs.Question.{Refusals, usual, struct, list, level_at_most}
use Rattle.cue_lattice.specs.Scalar.{IsScalar}
use Rattle.cue_lattice.specs.declared.scalar.Scalar.{Scalar}
use Rattle.cue_report.specs.Answers.{IsDemanded, HasNoScalar, HasNoLength, HasNoValue}
use Rattle.cue_report.specs.Answers.{IsNotAllowed}
use Rattle.cue_report.specs.Gaps.{IsMissing}

-- each scalar, struct and list is refused; or each length of a list is
abbrev pub RefusesValues : Refusals → Path → Type 0
RefusesValues refuses path =
    (HasNoScalar refuses path × refuses path struct × refuses path list) ⊎ HasNoLength refuses path

-- each scalar is refused as the default
abbrev pub HasNoDefault : Refusals → Path → Type 0
HasNoDefault refuses path =
    (scalar : Scalar) → IsScalar scalar → refuses path (usual scalar)

-- no conflict is at the path
pub record IsWithoutFinding (refuses : Refusals) (path : Path) : Type 0 where
  pub has_value : ¬ HasNoValue refuses path
  pub allowed : ¬ IsNotAllowed refuses path

-- Some layers make the finding at the path of a view where their own view demands the path and
-- refuses there what makes it. For a conflict that is each value, or the label, or both. For a gap
-- it is each level that the whole view refuses and, where no field is missing and no scalar is the
-- default, each scalar as the default.
pub record Makes (view own : Refusals) (path : Path) : Type 0 where
  pub demanded : IsDemanded own path
  pub no_value : HasNoValue view path → RefusesValues own path
  pub not_allowed : IsNotAllowed view path → IsNotAllowed own path
  pub levels : IsWithoutFinding view path → (k : ℕ) → view path (level_at_most k)
      → own path (level_at_most k)
  pub no_default : IsWithoutFinding view path → ¬ IsMissing view path → HasNoDefault view path
      → HasNoDefault own path
