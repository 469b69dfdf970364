-- What is told of a site, by the table that it holds.
use Rattle.std.specs.Prelude.{◌≡◌, ℕ, List, Bool, Option}
use Rattle.cue_report.specs.declared.conflict.Conflict.{Conflict}
use Rattle.cue_report.specs.declared.gap.Gap.{Gap}
use Rattle.cue_report.specs.declared.outcome.Export.{Export}
use Rattle.cue_report.specs.Export.{IsExport}
use Rattle.cue_report.specs.Gaps.{AreGaps}
use Rattle.cue_report.specs.Listing.{AreConflicts}
use Rattle.cue_report.specs.OneReport.{HaveOneReport}
use Rattle.cue_report.specs.declared.outcome.ExportKind.{ExportKind}
use Rattle.cue_report.specs.ExportText as report
pub use Rattle.cue_report.specs.ExportText.{WritesExportPrefix, WritesExport}
pub use Rattle.cue_report.specs.Lines.{conflict_line, gap_line}
pub use Rattle.cue_report.specs.Lines.{WritesConflictsPrefix, WritesGapsPrefix, WritesConflicts, WritesGaps}
use Rattle.cue_print.specs.Printed.{file_of}
use Rattle.cue_print.specs.Spelled.{file_text}
use Rattle.cue_replica.specs.Language.{Table, language}

-- its export
abbrev pub IsExportOfTable : Table → Export → Type 0
IsExportOfTable table = IsExport (language.table_refuses table)

-- all conflicts, in the order of their paths
abbrev pub AreConflictsOf : Table → List Conflict → Type 0
AreConflictsOf table = AreConflicts (language.table_refuses table)

-- all that is incomplete, in the order of the paths
abbrev pub AreGapsOf : Table → List Gap → Type 0
AreGapsOf table = AreGaps (language.table_refuses table)

-- its export, of this kind, has this text
abbrev pub IsExportAsText : Table → ExportKind → List ℕ → Type 0
IsExportAsText table = report.IsExportOf (language.table_refuses table)

-- known bytes grow by the text of its export, by a line for each conflict, or for each place that
-- is incomplete
abbrev pub WritesExportOf : Table → ExportKind → Option (List ℕ) → Option (List ℕ) → Type 0
WritesExportOf table = WritesExport (language.table_refuses table)

abbrev pub WritesConflictsOf : Table → Bool → Option (List ℕ) → Option (List ℕ) → Type 0
WritesConflictsOf table = WritesConflicts (language.table_refuses table)

abbrev pub WritesGapsOf : Table → Bool → Option (List ℕ) → Option (List ℕ) → Type 0
WritesGapsOf table = WritesGaps (language.table_refuses table)

-- they grow by the front of these
abbrev pub WritesExportPrefixOf : Table → Option (List ℕ) → Option (List ℕ) → Type 0
WritesExportPrefixOf table = WritesExportPrefix (language.table_refuses table)

abbrev pub WritesConflictsPrefixOf : Table → Option (List ℕ) → Option (List ℕ) → Type 0
WritesConflictsPrefixOf table = WritesConflictsPrefix (language.table_refuses table)

abbrev pub WritesGapsPrefixOf : Table → Option (List ℕ) → Option (List ℕ) → Type 0
WritesGapsPrefixOf table = WritesGapsPrefix (language.table_refuses table)

-- its canonical text
abbrev pub printed_text : Table → List ℕ
printed_text table = file_text (file_of table)

-- The same is told of both: the same conflicts, the same that is incomplete, the same export, the
-- same printed text and the same state bytes.
pub record HaveEqualReports (a b : Table) : Type 0 where
  pub reports : HaveOneReport (language.table_refuses a) (language.table_refuses b)
  pub text : printed_text a ≡ printed_text b
  pub bytes : language.written a ≡ language.written b
