-- There is one answer to a question about a table.
use Rattle.std.proofs.Common.{◌≡◌, ◌++◌, ℕ, List, [], refl, sym, ap, ◌∙◌, subst}
use Rattle.std.specs.List.{flat_map}
use Rattle.serde_json.specs.Written.{compact_text}
use Rattle.cue_report.proofs.Exported.{same_answers}
use Rattle.cue_report.proofs.OneReport.{one_conflicts, one_document, one_gaps}
use Rattle.cue_report.specs.declared.conflict.Conflict.{Conflict}
use Rattle.cue_report.specs.declared.gap.Gap.{Gap}
use Rattle.cue_report.specs.declared.outcome.ExportKind.{ExportKind}
use Rattle.cue_report.specs.declared.outcome.ExportKind.TheVariants.{Json, Conflicts, Incomplete}
use Rattle.cue_replica.specs.Language.{Table, language}
use Rattle.cue_replica.specs.Reports.{IsExportAsText, AreConflictsOf, AreGapsOf, conflict_line, gap_line}
use Rattle.cue_replica.specs.Answers.{IsAnswer, IsShown, HasBytesAndStatus, IsWholeAnswer, line_end, report_lines, report_status, status_of}
use Rattle.cue_replica.specs.declared.question.SiteQuestion.{SiteQuestion}
use Rattle.cue_replica.specs.declared.question.SiteQuestion.TheVariants as questions
use Rattle.cue_replica.specs.declared.question.Status.{Status}
use Rattle.cue_replica.specs.declared.answers.Answer.{Answer}

module _ (table : Table) where
  pub same_conflicts : (xs ys : List Conflict) → AreConflictsOf table xs → AreConflictsOf table ys → xs ≡ ys
  same_conflicts xs ys =
      let refuses = language.table_refuses table in
      one_conflicts refuses refuses xs ys (same_answers refuses)

  same_gaps : (xs ys : List Gap) → AreGapsOf table xs → AreGapsOf table ys → xs ≡ ys
  same_gaps xs ys =
      let refuses = language.table_refuses table in
      one_gaps refuses refuses xs ys (same_answers refuses)

  one_export : (k l : ExportKind) (s t : List ℕ) → IsExportAsText table k s → IsExportAsText table l t → (k ≡ l) × (s ≡ t)
  one_export Conflicts Conflicts s t (xs, some, are, e) (ys, other, too, f) = (refl, e ∙ ap (flat_map conflict_line) (same_conflicts xs ys are too) ∙ sym f)
  one_export Conflicts Incomplete s t (xs, some, are, e) (none, gaps) = absurd (some (same_conflicts xs [] are none))
  one_export Conflicts Json s t (xs, some, are, e) (none, gaps, json) = absurd (some (same_conflicts xs [] are none))
  one_export Incomplete Conflicts s t (none, gaps) (ys, some, are, e) = absurd (some (same_conflicts ys [] are none))
  one_export Incomplete Incomplete s t (none, (xs, some, are, e)) (clear, (ys, other, too, f)) = (refl, e ∙ ap (flat_map gap_line) (same_gaps xs ys are too) ∙ sym f)
  one_export Incomplete Json s t (none, (xs, some, are, e)) (clear, lacks, json) = absurd (some (same_gaps xs [] are lacks))
  one_export Json Conflicts s t (none, lacks, json) (ys, some, are, e) = absurd (some (same_conflicts ys [] are none))
  one_export Json Incomplete s t (none, lacks, json) (clear, (ys, some, are, e)) = absurd (some (same_gaps ys [] are lacks))
  one_export Json Json s t (none, lacks, (j, is, e)) (clear, lack, (k, too, f)) =
      let refuses = language.table_refuses table in
      (refl, e ∙ ap compact_text (one_document refuses refuses j k (same_answers refuses) is too) ∙ sym f)

  pub one_answer : (question : SiteQuestion) (s t : List ℕ) (p q : Status) → IsAnswer question table s p → IsAnswer question table t q → (s ≡ t) × (p ≡ q)
  one_answer questions.Export s t p q (k, is, e) (l, too, f) =
      let same = one_export k l s t is too in (same.1, e ∙ ap status_of same.0 ∙ sym f)
  one_answer questions.Print s t p q (is, e) (too, f) = (is ∙ sym too, e ∙ sym f)
  one_answer questions.Report s t p q (xs, gs, are, lack, is, e) (ys, hs, too, lacks, also, f) =
      let conflicts = same_conflicts xs ys are too in
      let gaps = same_gaps gs hs lack lacks in (
        is ∙ ap (λ zs. report_lines zs gs) conflicts ∙ ap (λ zs. report_lines ys zs) gaps ∙ sym also,
        e ∙ ap (λ zs. report_status zs gs) conflicts ∙ ap (λ zs. report_status ys zs) gaps ∙ sym f,
      )
  one_answer questions.State s t p q (is, e) (too, f) = (is ∙ sym too, e ∙ sym f)

  -- what is printed of an answer that is held whole
  pub shown_by : (question : SiteQuestion) (told shown : Answer) → IsWholeAnswer question table told → HasBytesAndStatus shown (told.bytes.items ++ line_end question told.status) told.status → IsShown question table shown.bytes.items shown.status
  shown_by question told shown tells says = (
    told.bytes.items,
    subst (IsAnswer question table told.bytes.items) (sym says.1) tells,
    says.0 ∙ ap (λ status. told.bytes.items ++ line_end question status) (sym says.1),
  )
