-- What has to be refused for a finding, as the code has it.
use Rattle.std.specs.Prelude.{◌≡◌, ◌↔◌, ◌⊎◌, ◌||◌, ℕ, ◌<◌, [], Bool, false, Some, IsTrue}
use Rattle.cue_lattice.specs.Path.{Path}
use Rattle.cue_lattice.specs.Question.{Refusals, level_at_most}
use Rattle.cue_report.specs.Answers.{IsDemanded, HasNoValue, IsNotAllowed}
use Rattle.cue_report.specs.Gaps.{IsMissing}
use Rattle.cue_report.specs.Inner.GapSearch.{IsOpenAt}
use Rattle.cue_report.specs.Inner.Search.{lacks_value}
use Rattle.cue_row.specs.Levels.{level_of}
use Rattle.cue_row.specs.Row.{IsRow, RowRefusesQuestion}
use Rattle.cue_row.specs.declared.level.Level.TheVariants.{Optional, Required}
use Rattle.cue_row.specs.declared.parts.RowParts.{RowParts as Row}
use Rattle.cue_why.specs.Finding.{RefusesValues, HasNoDefault, IsWithoutFinding}
use Rattle.cue_why.specs.Reported.{IsReported}
use Rattle.cue_why.specs.declared.finding.Finding.{Finding}

-- this has to be refused for what is reported at a path of a view
pub record IsFinding (view : Refusals) (path : Path) (finding : Finding) : Type 0 where
  pub demanded : IsDemanded view path
  pub no_value : IsTrue finding.no_value ↔ HasNoValue view path
  pub not_allowed : IsTrue finding.not_allowed ↔ IsNotAllowed view path
  pub levels : (k : ℕ) → k < level_of finding.level
      ↔ (IsWithoutFinding view path × view path (level_at_most k))
  pub no_default : IsTrue finding.no_default
      ↔ (IsWithoutFinding view path × (¬ IsMissing view path) × HasNoDefault view path)

-- it is refused along the path
pub record Meets (finding : Finding) (own : Refusals) (path : Path) : Type 0 where
  pub demanded : IsDemanded own path
  pub no_value : IsTrue finding.no_value → RefusesValues own path
  pub not_allowed : IsTrue finding.not_allowed → IsNotAllowed own path
  pub levels : (k : ℕ) → k < level_of finding.level → own path (level_at_most k)
  pub no_default : IsTrue finding.no_default → HasNoDefault own path

-- what a row refuses, at whatever path
abbrev pub at_row : Row → Refusals
at_row row path question = RowRefusesQuestion row question

-- a row refuses at its place what has to be refused there
pub record IsMetAt (finding : Finding) (row : Row) : Type 0 where
  pub no_value : IsTrue finding.no_value → RefusesValues (at_row row) []
  pub levels : (k : ℕ) → k < level_of finding.level → k < level_of row.level
  pub no_default : IsTrue finding.no_default → HasNoDefault (at_row row) []

-- this is reported at a path of a view, and has to be refused for it
abbrev pub IsReportedAs : Refusals → Path → Finding → Type 0
IsReportedAs view path finding = IsFinding view path finding × IsReported view path

-- what has to be refused for a gap
pub record IsGapOf (row : Row) (finding : Finding) : Type 0 where
  pub no_value : finding.no_value ≡ false
  pub not_allowed : finding.not_allowed ≡ false
  pub level : finding.level ≡ row.level
  pub no_default : IsTrue finding.no_default
      ↔ ((¬ (row.level ≡ Required)) × HasNoDefault (at_row row) [])

-- what has to be refused for a conflict
pub record IsConflictOf (row : Row) (barred : Bool) (finding : Finding) : Type 0 where
  pub no_value : finding.no_value ≡ lacks_value row
  pub not_allowed : finding.not_allowed ≡ barred
  pub some : IsTrue (finding.no_value || finding.not_allowed)
  pub level : finding.level ≡ Optional
  pub no_default : finding.no_default ≡ false

-- there is a gap at a place with this row, where its label is allowed
abbrev pub HasGap : Row → Type 0
HasGap row = (row.level ≡ Required) ⊎ IsOpenAt (Some row)

-- what has to be refused for what is reported at a demanded place with this row, the label of which
-- is not allowed or is
abbrev pub IsFoundAt : Row → Bool → Finding → Type 0
IsFoundAt row not_allowed finding =
    IsRow row
    × (IsConflictOf row not_allowed finding
    ⊎ ((lacks_value row ≡ false) × (not_allowed ≡ false) × HasGap row × IsGapOf row finding))

-- nothing is reported there
abbrev pub IsNothingAt : Row → Bool → Type 0
IsNothingAt row not_allowed =
    IsRow row × (lacks_value row ≡ false) × (not_allowed ≡ false) × ¬ HasGap row
