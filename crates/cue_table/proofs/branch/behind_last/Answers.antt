use Rattle.std.proofs.Common.{◌+◌, sym, ap, subst, ◌∙◌}
use Rattle.cue_row.specs.Steps.{step_of}
use Rattle.cue_table.specs.Form.{IsRowKept}
use Rattle.cue_table.specs.Inner.Form.{StepsRise}
use Rattle.cue_table.specs.Tree.{behind_last}
use Rattle.cue_table.specs.Inner.View.{branches}
use Rattle.cue_table.proofs.Finding.{branches_rise}
use Rattle.cue_table.proofs.Nodes.{behind_index, behind_label}
use Rattle.cue_table.proofs.branch.behind_last.Goals as goal

pub returns-in-Label-clause-number : goal.returns-in-Label-clause-number
returns-in-Label-clause-number g c =
    let P = IsRowKept g.R.Narrow.refuses g.R.Narrow.is_value in
    let cut = c.in-Some.ensures.cases.0 in
    let rises = subst (λ cs. StepsRise (branches cs)) cut (branches_rise P (branches c.args.children.now) c.requires) in
    sym (ap (λ cs. behind_last (branches cs)) cut ∙ behind_label c.in-Some.field-0-1.now c.in-Some.last.now _ rises (ap step_of (sym c.step.ensures ∙ c.in-Label.is)))

pub returns-in-Index-clause-number : goal.returns-in-Index-clause-number
returns-in-Index-clause-number g c =
    let P = IsRowKept g.R.Narrow.refuses g.R.Narrow.is_value in
    let cut = c.in-Some.ensures.cases.0 in
    let rises = subst (λ cs. StepsRise (branches cs)) cut (branches_rise P (branches c.args.children.now) c.requires) in
    ap (λ n. n + 1) c.from.ensures ∙ sym (ap (λ cs. behind_last (branches cs)) cut ∙ behind_index c.in-Some.field-0-1.now c.in-Some.last.now _ rises (ap step_of (sym c.step.ensures ∙ c.in-Index.is)))
