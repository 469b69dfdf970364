-- An export as text.
use Rattle.std.specs.Prelude.{◌≡◌, ◌≢◌, ℕ, List, [], Option}
use Rattle.std.specs.Io.KnownBytes.{Appends}
use Rattle.std.specs.List.{flat_map}
use Rattle.cue_device.specs.Texts.{WritesPrefix}
use Rattle.cue_lattice.specs.Question.{Refusals}
use Rattle.serde_json.specs.Data.{Data}
use Rattle.serde_json.specs.Written.{compact_text}
use Rattle.cue_report.specs.Export.{IsShape}
use Rattle.cue_report.specs.Gaps.{IsChosenScalar, AreGaps}
use Rattle.cue_report.specs.Lines.{conflict_line, gap_line}
use Rattle.cue_report.specs.Listing.{AreConflicts}
use Rattle.cue_report.specs.declared.conflict.Conflict.{Conflict}
use Rattle.cue_report.specs.declared.gap.Gap.{Gap}
use Rattle.cue_report.specs.declared.outcome.ExportKind.{ExportKind}
use Rattle.cue_report.specs.declared.outcome.ExportKind.TheVariants as kinds

-- an export of this kind has this text, whatever it is held in
abbrev pub IsExportOf : Refusals → ExportKind → List ℕ → Type 0
IsExportOf refuses kinds.Conflicts text =
    (found : List Conflict) × (found ≢ []) × AreConflicts refuses found
    × (text ≡ flat_map conflict_line found)
IsExportOf refuses kinds.Incomplete text =
    AreConflicts refuses [] × ((gaps : List Gap) × (gaps ≢ []) × AreGaps refuses gaps
    × (text ≡ flat_map gap_line gaps))
IsExportOf refuses kinds.Json text =
    AreConflicts refuses [] × AreGaps refuses []
    × ((json : Data) × IsShape IsChosenScalar refuses json × (text ≡ compact_text json))

-- known bytes grow by the text of the export, and its kind is told
abbrev pub WritesExport : Refusals → ExportKind → Option (List ℕ) → Option (List ℕ) → Type 0
WritesExport refuses kind old new =
    (text : List ℕ) × IsExportOf refuses kind text × Appends old new text

-- they grow by the front of that text
abbrev pub WritesExportPrefix : Refusals → Option (List ℕ) → Option (List ℕ) → Type 0
WritesExportPrefix refuses old new =
    (kind : ExportKind) (text : List ℕ) → IsExportOf refuses kind text → WritesPrefix old new text
