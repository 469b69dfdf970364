-- What a site answers to a question, by the table that it holds.
use Rattle.std.specs.Prelude.{◌≡◌, ℕ, ◌++◌, List, ◌∷◌, [], Option}
use Rattle.std.specs.Io.KnownBytes.{Appends}
use Rattle.std.specs.List.{flat_map}
use Rattle.cue_device.specs.Texts.{WritesPrefix}
use Rattle.cue_report.specs.declared.conflict.Conflict.{Conflict}
use Rattle.cue_report.specs.declared.gap.Gap.{Gap}
use Rattle.cue_report.specs.declared.outcome.ExportKind.{ExportKind}
use Rattle.cue_report.specs.declared.outcome.ExportKind.TheVariants as kinds
use Rattle.cue_replica.specs.Reports.{IsExportAsText, AreConflictsOf, AreGapsOf, conflict_line}
use Rattle.cue_replica.specs.Reports.{gap_line, printed_text}
use Rattle.cue_replica.specs.Language.{Table, language}
use Rattle.cue_replica.specs.declared.question.Status.{Status}
use Rattle.cue_replica.specs.declared.question.Status.TheVariants as statuses
use Rattle.cue_replica.specs.declared.question.SiteQuestion.{SiteQuestion}
use Rattle.cue_replica.specs.declared.question.SiteQuestion.TheVariants as questions
use Rattle.cue_replica.specs.declared.question.TextQuestion.{TextQuestion}
use Rattle.cue_replica.specs.declared.question.TextQuestion.TheVariants as texts
use Rattle.cue_replica.specs.declared.answers.Answer.{Answer}

-- the numbers of the statuses
abbrev pub code_of : Status → ℕ
code_of statuses.Done = 0
code_of statuses.Conflicts = 2
code_of statuses.Incomplete = 3

-- the status of an export, by its kind
abbrev pub status_of : ExportKind → Status
status_of kinds.Json = statuses.Done
status_of kinds.Conflicts = statuses.Conflicts
status_of kinds.Incomplete = statuses.Incomplete

-- the status of a report: by its conflicts, where it has any, and else by its gaps
abbrev pub report_status : List Conflict → List Gap → Status
report_status (conflict ∷ conflicts) gaps = statuses.Conflicts
report_status [] (gap ∷ gaps) = statuses.Incomplete
report_status [] [] = statuses.Done

-- a line for each conflict, and then one for each gap
abbrev pub report_lines : List Conflict → List Gap → List ℕ
report_lines conflicts gaps = flat_map conflict_line conflicts ++ flat_map gap_line gaps

-- the questions that are answered by a text
abbrev pub of_text : TextQuestion → SiteQuestion
of_text texts.Export = questions.Export
of_text texts.Print = questions.Print
of_text texts.Report = questions.Report

-- The answer to a question about the table: these bytes, with this status.
abbrev pub IsAnswer : SiteQuestion → Table → List ℕ → Status → Type 0
IsAnswer questions.Export table bytes status =
    (kind : ExportKind) × IsExportAsText table kind bytes × (status ≡ status_of kind)
IsAnswer questions.Print table bytes status =
    (bytes ≡ printed_text table) × (status ≡ statuses.Done)
IsAnswer questions.Report table bytes status =
    (conflicts : List Conflict) × (gaps : List Gap) × AreConflictsOf table conflicts
    × AreGapsOf table gaps
    × (bytes ≡ report_lines conflicts gaps) × (status ≡ report_status conflicts gaps)
IsAnswer questions.State table bytes status =
    (bytes ≡ language.written table) × (status ≡ statuses.Done)

-- it is held whole
abbrev pub IsWholeAnswer : SiteQuestion → Table → Answer → Type 0
IsWholeAnswer question table answer = IsAnswer question table answer.bytes.items answer.status

-- known bytes grow by it, and it has this status
abbrev pub WritesAnswer : SiteQuestion → Table → Status → Option (List ℕ) → Option (List ℕ) → Type 0
WritesAnswer question table status old new =
    (bytes : List ℕ) × IsAnswer question table bytes status × Appends old new bytes

-- they grow by the front of it
abbrev pub WritesAnswerPrefix : SiteQuestion → Table → Option (List ℕ) → Option (List ℕ) → Type 0
WritesAnswerPrefix question table old new =
    (bytes : List ℕ) (status : Status) → IsAnswer question table bytes status
    → WritesPrefix old new bytes

-- what a run prints behind an answer: a line break behind a JSON text, and else nothing
abbrev pub line_end : SiteQuestion → Status → List ℕ
line_end questions.Export statuses.Done = 10 ∷ []
line_end _ _ = []

-- an answer about a table as a run prints it
abbrev pub IsShown : SiteQuestion → Table → List ℕ → Status → Type 0
IsShown question table shown status =
    (bytes : List ℕ) × IsAnswer question table bytes status
    × (shown ≡ bytes ++ line_end question status)

-- the answer has these bytes and this status
abbrev pub HasBytesAndStatus : Answer → List ℕ → Status → Type 0
HasBytesAndStatus answer bytes status = (answer.bytes.items ≡ bytes) × (answer.status ≡ status)
