use Rattle.std.proofs.Common.{◌≡◌, None, sym, ◌∙◌}
use Rattle.cue_row.specs.Steps.{step_of}
use Rattle.cue_table.specs.Tree.{step_into}
use Rattle.cue_places.proofs.Rows.{no_value_below, value_below}
use Rattle.cue_places.proofs.bars.has_no_value_at.Goals as goal

pub returns-in-None : goal.returns-in-None
returns-in-None c =
    let none : step_into c.args.branch.now (step_of c.args.step.now) ≡ None = sym c.find.ensures.branch ∙ c.in-None.is in
    no_value_below c.args.branch.now (step_of c.args.step.now) none

pub returns-in-Some : goal.returns-in-Some
returns-in-Some c = value_below c.args.branch.now c.in-Some.next (step_of c.args.step.now) c.has_no_value.result (sym c.find.ensures.branch ∙ c.in-Some.is) c.has_no_value.ensures
