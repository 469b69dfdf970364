use Rattle.std.proofs.lemmas.Bool.{false≢true}
use Rattle.cue_row.specs.declared.question.Question.TheVariants as questions
use Rattle.cue_row.specs.Made.{at_level}
use Rattle.cue_row.proofs.Free.{free_row, forms_of_free}
use Rattle.cue_row.proofs.parts.RowParts.is_free_at.Goals as goal

pub returns-then-not-allows_all_forms : goal.returns-then-not-allows_all_forms
returns-then-not-allows_all_forms c =
    (λ e. absurd (false≢true e), λ free. let t = c.allows_all_forms.ensures.1 (forms_of_free (at_level c.args.level c.args.self.now) free) in cc (t, c.if-not-allows_all_forms.true))

pub returns-then-not-is_free : goal.returns-then-not-is_free
returns-then-not-is_free c =
    (λ e. absurd (false≢true e), λ free. let t = c.is_free.ensures.1 (λ x. free (questions.MayBe x)) in cc (t, c.if-not-is_free.true))

pub returns-then-not-is_free-2 : goal.returns-then-not-is_free-2
returns-then-not-is_free-2 c =
    (λ e. absurd (false≢true e), λ free. let t = c.is_free-2.ensures.1 (λ x. free (questions.Usual x)) in cc (t, c.if-not-is_free-2.true))

pub returns : goal.returns
returns c = (
  λ e. free_row (at_level c.args.level c.args.self.now) (c.allows_all_forms.ensures.0 c.if-not-allows_all_forms.false) (c.is_free.ensures.0 c.if-not-is_free.false) (c.is_free-2.ensures.0 c.if-not-is_free-2.false) (c.is_free-3.ensures.0 e),
  λ free. c.is_free-3.ensures.1 (λ l. free (questions.Allows l)),
)
