-- What rows refuse of what the program asks, against what they refuse of each question.
use Rattle.std.proofs.Common.{◌≡◌, ◌↔◌, ◌⊎◌, inl, inr, ⊎_elim, List, [], ◌∷◌, Option, Some, None, refl, sym, subst}
use Rattle.cue_lattice.specs.OneOf.{OneOf}
use Rattle.cue_lattice.specs.Path.{Path}
use Rattle.cue_lattice.specs.Question.{Question, may_be, usual, struct, list, allows, level_at_most, length_at_most, length_at_least}
use Rattle.cue_row.specs.declared.parts.RowParts.{RowParts as Row}
use Rattle.cue_row.specs.declared.question.Question as program
use Rattle.cue_row.specs.Questions.{question_of, asked_by_question}
use Rattle.cue_row.specs.Row as rows
use Rattle.cue_row.specs.Row.{RefusesAsked}
use Rattle.cue_table.specs.Tree.{Tree, row_at}
use Rattle.cue_table.specs.Many.{AreUnified}
use Rattle.cue_table.specs.Meet.{IsMet}
use Rattle.cue_table.specs.Refuses.{RowRefuses, TableRefuses}
use Rattle.cue_policies.specs.Inner.Answers.{PolicyTreeRefusals}

-- each question is asked by one of the program
pub asks : (question : Question) → question_of (asked_by_question question) ≡ question
asks (may_be scalar) = refl
asks (usual scalar) = refl
asks struct = refl
asks list = refl
asks (allows label) = refl
asks (level_at_most level) = refl
asks (length_at_most length) = refl
asks (length_at_least length) = refl

asked_row : (row : Option Row) (question : Question) → RowRefuses RefusesAsked row (asked_by_question question) ↔ RowRefuses rows.RowRefusesQuestion row question
asked_row None question = (λ h. h, λ h. h)
asked_row (Some row) question = (subst (rows.RowRefusesQuestion row) (asks question), subst (rows.RowRefusesQuestion row) (sym (asks question)))

-- a table refuses a question just where it refuses the one that the program asks for it
pub asked : (table : Tree Row) (path : Path) (question : Question) → TableRefuses RefusesAsked table path (asked_by_question question) ↔ PolicyTreeRefusals table path question
asked table path question = asked_row (row_at table path) question

answered_row : (row : Option Row) (question : program.Question) → RowRefuses RefusesAsked row question ↔ RowRefuses rows.RowRefusesQuestion row (question_of question)
answered_row None question = (λ h. h, λ h. h)
answered_row (Some row) question = (λ h. h, λ h. h)

-- what the program asks is one of the questions
pub answered : (table : Tree Row) (path : Path) (question : program.Question) → TableRefuses RefusesAsked table path question ↔ PolicyTreeRefusals table path (question_of question)
answered table path question = answered_row (row_at table path) question

-- what holds of one of a list, in other terms
pub one_as : {X : Type 0} {P Q : X → Type 0} → ((x : X) → P x → Q x) → (xs : List X) → OneOf P xs → OneOf Q xs
one_as f [] h = absurd h
one_as f (x ∷ xs) h = ⊎_elim (λ p. inl (f x p)) (λ r. inr (one_as f xs r)) h

-- what is met of two tables refuses what one of both does, whatever is asked
pub met_answers : (a b met : Tree Row) → IsMet RefusesAsked a b met → (path : Path) (question : Question) → PolicyTreeRefusals met path question ↔ (PolicyTreeRefusals a path question ⊎ PolicyTreeRefusals b path question)
met_answers a b met is path question =
    let here = is path (asked_by_question question) in (
      λ h. ⊎_elim (λ p. inl ((asked a path question).0 p)) (λ p. inr ((asked b path question).0 p)) (here.0 ((asked met path question).1 h)),
      λ h. (asked met path question).0 (here.1 (⊎_elim (λ p. inl ((asked a path question).1 p)) (λ p. inr ((asked b path question).1 p)) h)),
    )

-- and what is unified of many refuses what one of them does
pub unified_answers :
    (tables : List (Tree Row)) (met : Tree Row) → AreUnified RefusesAsked tables met
    → (path : Path) (question : Question) → PolicyTreeRefusals met path question ↔ OneOf (λ table. PolicyTreeRefusals table path question) tables
unified_answers tables met is path question =
    let here = is path (asked_by_question question) in (
      λ h. one_as (λ table p. (asked table path question).0 p) tables (here.0 ((asked met path question).1 h)),
      λ h. (asked met path question).0 (here.1 (one_as (λ table p. (asked table path question).1 p) tables h)),
    )
