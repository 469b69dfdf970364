-- Each valid row refuses some question, and rows whose level plays no part.
use Rattle.std.proofs.Common.{◌≡◌, ◌↔◌, refl, sym, ap, subst, ◌∙◌, arith}
use Rattle.std.proofs.lemmas.Bool.{false≢true}
use Rattle.cue_lattice.specs.Question as questions
use Rattle.cue_lattice.specs.Question.{Question, may_be, usual, allows, level_at_most, length_at_most, length_at_least}
use Rattle.cue_row.specs.Kinds.{IsRowKind}
use Rattle.cue_row.specs.LabelSets.{allows_label}
use Rattle.cue_row.specs.Lengths.{RefusesLength}
use Rattle.cue_row.specs.Levels.{level_of}
use Rattle.cue_row.specs.Made.{at_level}
use Rattle.cue_row.specs.Questions.{question_of}
use Rattle.cue_row.specs.Row.{RowRefusesQuestion}
use Rattle.cue_row.specs.ValidRow.{IsValidRow, UsualFits, LabelsFit, LengthsFit}
use Rattle.cue_row.specs.declared.kind.RowKind.{RowKind}
use Rattle.cue_row.specs.declared.kind.RowKind.TheVariants as kinds
use Rattle.cue_row.specs.declared.level.Level.{Level}
use Rattle.cue_row.specs.declared.level.Level.TheVariants.{Optional, Required, Given}
use Rattle.cue_row.specs.declared.parts.RowParts.{RowParts as Row}
use Rattle.cue_policies.specs.View.{IsLevelInView}

-- a place where anything may stand refuses nothing but a level
open_row : (row : Row) → IsRowKind row kinds.Free → UsualFits row kinds.Free → LabelsFit row kinds.Free → LengthsFit row kinds.Free → (question : Question) → RowRefusesQuestion row question → IsLevelInView question
open_row row kind is_usual labels lengths (may_be scalar) r = kind.0 scalar r
open_row row kind is_usual labels lengths (usual scalar) r = is_usual scalar r
open_row row kind is_usual labels lengths questions.struct r = false≢true (sym r ∙ kind.1)
open_row row kind is_usual labels lengths questions.list r = false≢true (sym r ∙ kind.2)
open_row row kind is_usual labels lengths (allows l) r = false≢true (sym r ∙ ap (λ set. allows_label set l) labels)
open_row row kind is_usual labels lengths (level_at_most k) r = tt
open_row row kind is_usual labels lengths (length_at_most n) r = absurd (omega (arith, r, lengths.0))
open_row row kind is_usual labels lengths (length_at_least n) r = absurd (subst (λ most. RefusesLength most n) lengths.1 r)

-- a level that is optional is not refused
no_level : (row : Row) (question : Question) → row.level ≡ Optional → RowRefusesQuestion row question → ¬ IsLevelInView question
no_level row (level_at_most k) e r level = let number = ap level_of e in absurd (omega (arith, number, r))
no_level row (may_be scalar) e r level = level
no_level row (usual scalar) e r level = level
no_level row questions.struct e r level = level
no_level row questions.list e r level = level
no_level row (allows l) e r level = level
no_level row (length_at_most n) e r level = level
no_level row (length_at_least n) e r level = level

abbrev pub RefusesSome : Row → Type 0
RefusesSome row = (question : Question) × RowRefusesQuestion row question

-- each valid row refuses something
pub something : (row : Row) → IsValidRow row → RefusesSome row
something row h = by h.kind h.is_kind h.usual h.labels h.row_lengths row.level refl
  where
    by : (kind : RowKind) → IsRowKind row kind → UsualFits row kind → LabelsFit row kind → LengthsFit row kind → (level : Level) → row.level ≡ level → RefusesSome row
    by kinds.Scalar is u l n level e = (questions.struct, is.1)
    by kinds.Struct is u l n level e = (questions.list, is.2)
    by kinds.List is u l n level e = (questions.struct, is.1)
    by kinds.Nothing is u l n level e = (questions.struct, is.1)
    by kinds.Free is u l n Required e = let number = ap level_of e in (level_at_most 0, omega (arith, number))
    by kinds.Free is u l n Given e = let number = ap level_of e in (level_at_most 0, omega (arith, number))
    by kinds.Free is u l n Optional e =
        absurd (h.not_free (λ question r. no_level row (question_of question) e r (open_row row is u l n (question_of question) r)))

-- a row of level 0 refuses what the row refuses but a level
pub loose_row : (row : Row) (question : Question) → RowRefusesQuestion (at_level Optional row) question ↔ (RowRefusesQuestion row question × ¬ IsLevelInView question)
loose_row row (may_be scalar) = (λ r. (r, λ n. n), λ h. h.0)
loose_row row (usual scalar) = (λ r. (r, λ n. n), λ h. h.0)
loose_row row questions.struct = (λ r. (r, λ n. n), λ h. h.0)
loose_row row questions.list = (λ r. (r, λ n. n), λ h. h.0)
loose_row row (allows l) = (λ r. (r, λ n. n), λ h. h.0)
loose_row row (level_at_most k) = (λ r. absurd (omega (arith, r)), λ h. absurd (h.1 tt))
loose_row row (length_at_most n) = (λ r. (r, λ n. n), λ h. h.0)
loose_row row (length_at_least n) = (λ r. (r, λ n. n), λ h. h.0)
