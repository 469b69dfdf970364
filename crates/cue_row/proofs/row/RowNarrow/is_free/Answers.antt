use Rattle.std.proofs.Common.{sym, ap, ◌∙◌, subst}
use Rattle.std.proofs.lemmas.Bool.{false≢true}
use Rattle.cue_row.specs.declared.question.Question.{Question}
use Rattle.cue_row.specs.Kept.{row_parts_of}
use Rattle.cue_row.specs.Row.{RefusesAsked}
use Rattle.cue_row.proofs.SmallRows.{small_is_free}
use Rattle.cue_row.proofs.row.RowNarrow.is_free.Goals as goal

pub returns-then-same : goal.returns-then-same
returns-then-same c =
    let row_is = ap row_parts_of (sym c.in-Small.is) ∙ c.self.view_is in
    let when = small_is_free c.in-Small.level c.in-Small.small in (
      λ e. subst (λ row. (question : Question) → ¬ RefusesAsked row question) row_is (when.0 (c.same.ensures.0 c.if-same.true, c.is_anything.ensures.0 e)),
      λ free. c.is_anything.ensures.1 (when.1 (subst (λ row. (question : Question) → ¬ RefusesAsked row question) (sym row_is) free)).1,
    )

pub returns-else-same : goal.returns-else-same
returns-else-same c =
    let row_is = ap row_parts_of (sym c.in-Small.is) ∙ c.self.view_is in
    let when = small_is_free c.in-Small.level c.in-Small.small in (
      λ e. absurd (false≢true (sym c.if-same.false ∙ e)),
      λ free. c.same.ensures.1 (when.1 (subst (λ row. (question : Question) → ¬ RefusesAsked row question) (sym row_is) free)).0,
    )
