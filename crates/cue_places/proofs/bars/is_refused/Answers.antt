use Rattle.std.proofs.Common.{◌≡◌, Some, None, Bor, sym, ap, ◌∙◌}
use Rattle.std.proofs.lemmas.Bool.{false≢true}
use Rattle.std.specs.Option.{option_map}
use Rattle.cue_lattice.specs.Path.{label}
use Rattle.cue_row.specs.Steps.{step_of}
use Rattle.cue_row.specs.declared.parts.RowParts.{RowParts as Row}
use Rattle.cue_table.specs.Tree.{row_of}
use Rattle.cue_places.proofs.Rows.{label_none, label_some, index_allowed}
use Rattle.cue_places.proofs.bars.is_refused.Goals as goal

pub returns-in-Index : goal.returns-in-Index
returns-in-Index c = (λ t. absurd (false≢true t), λ h. absurd (index_allowed c.args.branch.now (step_of c.args.step.now) c.in-Index.field-0 (ap step_of c.in-Index.is) h))

pub returns-in-None : goal.returns-in-None
returns-in-None c =
    let none : row_of c.args.branch.now ≡ None = sym c.row.ensures.row ∙ ap (option_map (λ (row : Bor Row). row.now)) c.in-None.is in
    (λ t. absurd (false≢true t), λ h. absurd (label_none c.args.branch.now (step_of c.args.step.now) c.in-Label.label (ap step_of c.in-Label.is) none h))

pub returns-in-Some : goal.returns-in-Some
returns-in-Some c =
    let some : row_of c.args.branch.now ≡ Some c.in-Some.row.now = sym c.row.ensures.row ∙ ap (option_map (λ (row : Bor Row). row.now)) c.in-Some.is in
    let step : step_of c.args.step.now ≡ label c.as_str.result.now = ap step_of c.in-Label.is ∙ ap label (sym c.as_str.ensures) in
    label_some c.args.branch.now (step_of c.args.step.now) c.as_str.result.now c.in-Some.row.now c.allows.result step some c.allows.ensures
