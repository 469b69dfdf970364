-- Answers that were told, or begun.
use Rattle.std.proofs.Common.{◌≡◌, ◌++◌, ◌∷◌, ℕ, Bool, true, false, List, [], Option, Result, Ok, Err, OnErr, not, refl, sym, ap, ◌∙◌, subst}
use Rattle.std.specs.Io.KnownBytes.{Appends}
use Rattle.std.specs.List.{flat_map}
use Rattle.cue_device.specs.Texts.{WritesPrefix}
use Rattle.cue_device.proofs.Texts.{appends_then, begins_later, begins_now}
use Rattle.cue_lattice.specs.Bools.{is_nil}
use Rattle.cue_report.specs.declared.conflict.Conflict.{Conflict}
use Rattle.cue_report.specs.declared.gap.Gap.{Gap}
use Rattle.cue_report.specs.declared.outcome.ExportKind.{ExportKind}
use Rattle.cue_replica.specs.Language.{Table}
use Rattle.cue_replica.specs.Reports.{WritesConflictsPrefixOf, WritesExportPrefixOf, WritesGapsPrefixOf, WritesConflictsOf, WritesExportOf, WritesGapsOf, conflict_line, gap_line, printed_text}
use Rattle.cue_replica.specs.Answers.{WritesAnswerPrefix, WritesAnswer, report_lines, report_status, status_of}
use Rattle.cue_replica.specs.Inner.Statuses.{lines_status}
use Rattle.cue_replica.specs.declared.question.SiteQuestion.TheVariants as questions
use Rattle.cue_replica.specs.declared.question.Status.{Status}
use Rattle.cue_replica.specs.declared.question.Status.TheVariants as statuses
use Rattle.cue_replica.proofs.OneAnswer.{same_conflicts}

-- what holds anyway holds of what was not told
pub any_err : {T E : Type 0} (r : Result T E) (P : Type 0) → P → OnErr r P
any_err (Ok x) P p = tt
any_err (Err e) P p = p

module _ (table : Table) (old : Option (List ℕ)) where
  pub export_told : (new : Option (List ℕ)) (kind : ExportKind) (status : Status) → status ≡ status_of kind → WritesExportOf table kind old new → WritesAnswer questions.Export table status old new
  export_told new kind status e told = (told.0, (kind, told.1, e), told.2)

  pub export_begun : (new : Option (List ℕ)) → WritesExportPrefixOf table old new → WritesAnswerPrefix questions.Export table old new
  export_begun new begun bytes status is = begun is.0 bytes is.1

  pub print_begun : (new : Option (List ℕ)) → WritesPrefix old new (printed_text table) → WritesAnswerPrefix questions.Print table old new
  print_begun new begun bytes status is = subst (WritesPrefix old new) (sym is.0) begun

  status_is : (found : List Conflict) (gaps : List Gap) → lines_status (not (is_nil found)) (not (is_nil gaps)) ≡ report_status found gaps
  status_is (x ∷ found) gaps = refl
  status_is [] (x ∷ gaps) = refl
  status_is [] [] = refl

  module _ (mid new : Option (List ℕ)) (some : Bool) (told : WritesConflictsOf table some old mid) where
    pub report_told : (more : Bool) (status : Status) → status ≡ lines_status some more → WritesGapsOf table more mid new → WritesAnswer questions.Report table status old new
    report_told more status e lacks = (
      report_lines told.0 lacks.0,
      (
        told.0,
        lacks.0,
        told.1,
        lacks.1,
        refl,
        e ∙ ap (λ b. lines_status b more) told.2 ∙ ap (lines_status (not (is_nil told.0))) lacks.2 ∙ status_is told.0 lacks.0,
      ),
      appends_then old mid new (flat_map conflict_line told.0) (flat_map gap_line lacks.0) told.3 lacks.3,
    )

    pub report_half : WritesGapsPrefixOf table mid new → WritesAnswerPrefix questions.Report table old new
    report_half begun bytes status (found, gaps, are, lack, is, e) =
        let same = same_conflicts table told.0 found told.1 are in
        subst (WritesPrefix old new) (sym is)
        (begins_later old mid new (flat_map conflict_line found) (flat_map gap_line gaps)
        (subst (λ xs. Appends old mid (flat_map conflict_line xs)) same told.3) (begun gaps lack))

  pub report_begun : (new : Option (List ℕ)) → WritesConflictsPrefixOf table old new → WritesAnswerPrefix questions.Report table old new
  report_begun new begun bytes status (found, gaps, are, lack, is, e) =
      subst (WritesPrefix old new) (sym is) (begins_now old new (flat_map conflict_line found) (flat_map gap_line gaps) (begun found are))
