-- What is printed of a table that may be any.
use Rattle.std.proofs.Common.{◌≡◌, ◌∙◌, ◌++◌, ◌∷◌, ℕ, Bool, List, [], Some, not, refl, sym, ap}
use Rattle.std.specs.List.{flat_map}
use Rattle.std.proofs.lemmas.List.{append-nil}
use Rattle.cue_lattice.specs.Bools.{is_nil}
use Rattle.cue_replica.specs.declared.Conflict.{Conflict}
use Rattle.cue_replica.specs.declared.Gap.{Gap}
use Rattle.cue_replica.specs.Language.{Table}
use Rattle.cue_replica.specs.Reports.{WritesConflictsOf, WritesGapsOf, gap_line}
use Rattle.cue_replica.specs.Answers.{code_of, report_lines, report_status}
use Rattle.cue_replica.specs.declared.question.SiteQuestion.TheVariants as questions
use Rattle.cue_layers_command.specs.Places.{IsShownAt}
use Rattle.cue_layers_command.specs.inner.Lines.{lines_code}

code_is : (found : List Conflict) (gaps : List Gap) → lines_code (not (is_nil found)) (not (is_nil gaps)) ≡ code_of (report_status found gaps)
code_is (x ∷ found) gaps = refl
code_is [] (x ∷ gaps) = refl
code_is [] [] = refl

-- the lines of a report, in a text of their own
pub report_shown :
    (table : Table) (mid new : List ℕ) (some more : Bool) (code : ℕ) → WritesConflictsOf table some (Some []) (Some mid) → WritesGapsOf table more (Some mid) (Some new)
    → code ≡ lines_code some more → IsShownAt questions.Report table new code
report_shown table mid new some more code told lacks is = (
  report_status told.0 lacks.0,
  (
    report_lines told.0 lacks.0,
    (told.0, lacks.0, told.1, lacks.1, refl, refl),
    lacks.3 ∙ ap (λ x. x ++ flat_map gap_line lacks.0) told.3 ∙ sym (append-nil (report_lines told.0 lacks.0)),
  ),
  is ∙ ap (λ b. lines_code b more) told.2 ∙ ap (lines_code (not (is_nil told.0))) lacks.2 ∙ code_is told.0 lacks.0,
)
