use Rattle.std.proofs.Common.{sym, ap, ◌∙◌, subst}
use Rattle.cue_row.specs.Inner.Covers.{CoversRow}
use Rattle.cue_row.specs.Kept.{row_parts_of, small_parts}
use Rattle.cue_row.specs.Made.{at_level}
use Rattle.cue_row.proofs.row.Row.covers.Goals as goal

pub returns-in-Small-Small : goal.returns-in-Small-Small
returns-in-Small-Small c =
    let p = c.in-Small-Small in λ e.
    subst (λ row. CoversRow row c.args.other.now) (ap row_parts_of (sym p.is-0) ∙ c.self.view_is)
    (subst (λ row. CoversRow (small_parts p.field-0-0 p.small) row) (ap row_parts_of (sym p.is-1) ∙ c.other.view_is) (c.covers.ensures e p.field-0-0 p.field-0-1))

pub returns-in-Small-Whole : goal.returns-in-Small-Whole
returns-in-Small-Whole c =
    let p = c.in-Small-Whole in λ e.
    subst (λ row. CoversRow row c.args.other.now) (ap row_parts_of (sym p.is-0) ∙ c.self.view_is)
    (subst (λ row. CoversRow (small_parts p.field-0-0 p.small) row) (ap (at_level p.field-0-1) c.deref.ensures ∙ ap row_parts_of (sym p.is-1) ∙ c.other.view_is)
    (c.covers_parts.ensures e p.field-0-0 p.field-0-1))

pub returns-in-Whole-Small : goal.returns-in-Whole-Small
returns-in-Whole-Small c =
    let p = c.in-Whole-Small in λ e.
    subst (λ row. CoversRow row c.args.other.now) (ap (at_level p.field-0-0) c.deref-in-Whole-Small.ensures ∙ ap row_parts_of (sym p.is-0) ∙ c.self.view_is)
    (subst (λ row. CoversRow (at_level p.field-0-0 c.deref-in-Whole-Small.result.now) row) (ap row_parts_of (sym p.is-1) ∙ c.other.view_is)
    (c.cover_small.ensures e p.field-0-0 p.field-0-1))

pub returns-in-Whole-Whole : goal.returns-in-Whole-Whole
returns-in-Whole-Whole c =
    let p = c.in-Whole-Whole in λ e.
    subst (λ row. CoversRow row c.args.other.now) (ap (at_level p.field-0-0) c.deref-in-Whole-Whole.ensures ∙ ap row_parts_of (sym p.is-0) ∙ c.self.view_is)
    (subst (λ row. CoversRow (at_level p.field-0-0 c.deref-in-Whole-Whole.result.now) row) (ap (at_level p.field-0-1) c.deref-in-Whole-Whole-2.ensures ∙ ap row_parts_of (sym p.is-1) ∙ c.other.view_is)
    (c.cover.ensures e p.field-0-0 p.field-0-1))
