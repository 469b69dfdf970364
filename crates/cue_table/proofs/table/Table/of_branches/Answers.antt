use Rattle.std.proofs.Common.{rules, subst}
use Rattle.std.proofs.lemmas.Result.{IfOk-weaker}
use Rattle.cue_table.specs.Inner.Form.{StepsRise}
use Rattle.cue_table.specs.Inner.View.{branches}
use Rattle.cue_table.specs.Many.{IsOfBranches}
use Rattle.cue_table.proofs.ByHalves.{rows_given}
use Rattle.cue_table.proofs.Rising.{rising_given}
use Rattle.cue_table.proofs.table.Table.of_branches.Goals as goal

pub returns-then-is_rising-clause-refused : goal.returns-then-is_rising-clause-refused
returns-then-is_rising-clause-refused g c =
    let rises = subst (λ xs. StepsRise (branches xs)) c.deref.ensures.value (c.if-is_rising.ensures.0 (search rules)) in
    rows_given g.R.Narrow.refuses c.args.branches.items c.of_rising.result (subst (λ xs. IsOfBranches g.R.Narrow.refuses xs c.of_rising.result) c.in_ok-children.ensures.same
    (rising_given g.R.Narrow.refuses c.in_ok-children.children.items c.of_rising.result rises c.of_rising.ensures.same))

pub returns-clause-refused : goal.returns-clause-refused
returns-clause-refused g c =
    IfOk-weaker c.of_any.result _ _ (λ table h. rows_given g.R.Narrow.refuses c.args.branches.items table (subst (λ xs. IsOfBranches g.R.Narrow.refuses xs table) c.in_ok-children.ensures.same h)) c.of_any.ensures.refused
