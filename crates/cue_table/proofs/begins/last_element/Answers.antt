use Rattle.std.proofs.Common.{sym, ap, subst, ◌∙◌}
use Rattle.cue_row.specs.Steps.{step_of}
use Rattle.cue_table.specs.Inner.Loose.{IsLastElement}
use Rattle.cue_table.specs.Inner.View.{branches}
use Rattle.cue_table.proofs.RestBegins.{last_branch, no_element_last}
use Rattle.cue_table.proofs.begins.last_element.Goals as goal

pub returns-in-Label-clause-none : goal.returns-in-Label-clause-none
returns-in-Label-clause-none g c =
    no_element_last c.args.children.now c.in_ok-child.field-0-1.now c.in_ok-child.child.now _ c.in_ok-child.ensures.cases.0 (ap step_of (sym c.step.ensures ∙ c.in-Label.is)) c.requires

pub returns-in-Index-clause-some : goal.returns-in-Index-clause-some
returns-in-Index-clause-some g c =
    subst (λ t. IsLastElement c.in-Index.number t (branches c.args.children.now)) (sym c.node.ensures)
    (last_branch c.args.children.now c.in_ok-child.field-0-1.now c.in_ok-child.child.now c.in-Index.number c.in_ok-child.ensures.cases.0
    (ap step_of (sym c.step.ensures ∙ c.in-Index.is)) c.requires)
