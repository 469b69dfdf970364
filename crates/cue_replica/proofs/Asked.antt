-- What rows refuse of what the program asks, against what they refuse of each question.
use Rattle.std.proofs.Common.{◌≡◌, ◌↔◌, Option, Some, None, refl, sym, subst}
use Rattle.cue_lattice.specs.Path.{Path}
use Rattle.cue_lattice.specs.Question.{Question, may_be, usual, struct, list, allows, level_at_most, length_at_most, length_at_least, SameAnswers}
use Rattle.cue_row.specs.declared.parts.RowParts.{RowParts as Row}
use Rattle.cue_row.specs.declared.question.Question as program
use Rattle.cue_row.specs.Questions.{question_of, asked_by_question}
use Rattle.cue_row.specs.Row as rows
use Rattle.cue_row.specs.Row.{RefusesAsked, IsRow}
use Rattle.cue_row.specs.RowLaws.{same_rows}
use Rattle.cue_table.specs.Tree.{Tree, row_at}
use Rattle.cue_table.specs.Refuses.{RowRefuses, TableRefuses}
use Rattle.cue_table.specs.Valid.{IsValidTable}
use Rattle.cue_table.proofs.Exact.{exact_tree}

-- each question is asked by one of the program
asks : (question : Question) → question_of (asked_by_question question) ≡ question
asks (may_be scalar) = refl
asks (usual scalar) = refl
asks struct = refl
asks list = refl
asks (allows label) = refl
asks (level_at_most level) = refl
asks (length_at_most length) = refl
asks (length_at_least length) = refl

asked_row : (row : Option Row) (question : Question) → RowRefuses RefusesAsked row (asked_by_question question) ↔ RowRefuses rows.RowRefusesQuestion row question
asked_row None question = (λ h. h, λ h. h)
asked_row (Some row) question = (subst (rows.RowRefusesQuestion row) (asks question), subst (rows.RowRefusesQuestion row) (sym (asks question)))

-- a table refuses a question just where it refuses the one that the program asks for it
pub asked :
    (table : Tree Row) (path : Path) (question : Question)
    → TableRefuses RefusesAsked table path (asked_by_question question) ↔ TableRefuses rows.RowRefusesQuestion table path question
asked table path question = asked_row (row_at table path) question

-- what the program asks is one of the questions
stands_for : (row : Option Row) (question : program.Question) → RowRefuses RefusesAsked row question ↔ RowRefuses rows.RowRefusesQuestion row (question_of question)
stands_for None question = (λ h. h, λ h. h)
stands_for (Some row) question = (λ h. h, λ h. h)

-- valid tables with equal answers are equal
pub one_table :
    (a b : Tree Row) → IsValidTable a → IsValidTable b
    → SameAnswers (TableRefuses rows.RowRefusesQuestion a) (TableRefuses rows.RowRefusesQuestion b) → a ≡ b
one_table a b h k same =
    exact_tree RefusesAsked IsRow same_rows a b h.form k.form (λ path question.
    let l = stands_for (row_at a path) question in
    let r = stands_for (row_at b path) question in
    let s = same path (question_of question) in
    (λ p. r.1 (s.0 (l.0 p)), λ p. l.1 (s.1 (r.0 p))))
