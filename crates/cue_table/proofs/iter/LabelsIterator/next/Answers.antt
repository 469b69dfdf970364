use Rattle.std.proofs.Common.{sym, ◌∙◌}
use Rattle.cue_table.specs.Form.{IsRowKept}
use Rattle.cue_table.proofs.Nodes.{no_labels_left}
use Rattle.cue_table.proofs.iter.LabelsIterator.next.Goals as goal

pub returns-in-Index-clause-steps : goal.returns-in-Index-clause-steps
returns-in-Index-clause-steps g c =
    let none =
    no_labels_left (IsRowKept g.R.Narrow.refuses g.R.Narrow.is_value) c.self.inside.rest.now c.in_ok-child.rest.now c.in_ok-child.child.now
    c.in-Index.field-0 c.args.self.now c.in_ok-child.ensures.cases.0 (sym c.step.ensures ∙ c.in-Index.is) c.self.view_is c.self.invariant in
    (none, none)
