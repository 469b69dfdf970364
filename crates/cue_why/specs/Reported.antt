-- What is reported at a path.
use Rattle.std.specs.Prelude.{◌≡◌, ◌⊎◌}
use Rattle.cue_lattice.specs.Path.{Path}
use Rattle.cue_lattice.specs.Question.{Refusals}
use Rattle.cue_report.specs.Answers.{HasNoValue, IsNotAllowed}
use Rattle.cue_report.specs.Gaps.{IsReportGap}
use Rattle.cue_report.specs.Listing.{IsConflict}
use Rattle.cue_report.specs.declared.conflict.Conflict.{Conflict}
use Rattle.cue_report.specs.declared.gap.Gap.{Gap}

-- the report of a view has a conflict at the path, or a gap
abbrev pub IsReported : Refusals → Path → Type 0
IsReported view path =
    ((conflict : Conflict) × (conflict.path ≡ path) × IsConflict view conflict)
    ⊎ ((gap : Gap) × (gap.path ≡ path) × IsReportGap view gap)

-- it has a conflict there for the label alone
abbrev pub IsLabelReported : Refusals → Path → Type 0
IsLabelReported view path =
    IsReported view path × IsNotAllowed view path × ¬ HasNoValue view path
