use Rattle.std.proofs.Common.{IfOk, IfNone, sym, ap, ◌∙◌, subst}
use Rattle.cue_lattice.specs.declared.scalar.Scalar.{Scalar}
use Rattle.cue_row.specs.Chosen.{IsRowChosen}
use Rattle.cue_row.specs.Kept.{row_parts_of}
use Rattle.cue_row.specs.Made.{at_level}
use Rattle.cue_row.proofs.row.Row.chosen.Goals as goal

pub returns-in-Whole-clause-none : goal.returns-in-Whole-clause-none
returns-in-Whole-clause-none c =
    subst (λ row. IfOk c.chosen-in-Whole.result (λ found. IfNone found ((scalar : Scalar) → ¬ IsRowChosen row scalar)))
    (ap (at_level c.in-Whole.field-0) c.deref.ensures ∙ ap row_parts_of (sym c.in-Whole.is) ∙ c.self.view_is) c.chosen-in-Whole.ensures.none
