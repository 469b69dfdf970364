use Rattle.std.proofs.Common.{IsTrue, ◌↔◌, sym, ap, ◌∙◌, subst}
use Rattle.cue_scalars.specs.Scalars.{IsScalarsWithin}
use Rattle.cue_row.specs.Kept.{row_parts_of}
use Rattle.cue_row.specs.Made.{at_level}
use Rattle.cue_row.proofs.row.Row.is_usual_within.Goals as goal

pub returns-in-Whole : goal.returns-in-Whole
returns-in-Whole c =
    let level = c.in-Whole.field-0 in let row_is = ap row_parts_of (sym c.in-Whole.is) ∙ c.self.view_is in
    subst (λ row. IsTrue c.is_within.result ↔ IsScalarsWithin row.usual c.args.self.now.value) (ap (at_level level) c.deref.ensures ∙ row_is)
    (subst (λ row. IsTrue c.is_within.result ↔ IsScalarsWithin c.deref.result.now.usual row.value) (ap (at_level level) c.deref-in-Whole.ensures ∙ row_is) c.is_within.ensures)
