use Rattle.std.proofs.Common.{sym, ◌∙◌}
use Rattle.std.proofs.lemmas.Result.{IfOk-weaker}
use Rattle.cue_table.proofs.AtOneStep.{nothing_given, one_step_given, unified_depth}
use Rattle.cue_table.proofs.Rising.{made_branch}
use Rattle.cue_table.proofs.one_step.of_one_step.Goals as goal

pub of_branch-requires : goal.of_branch-requires
of_branch-requires g c =
    let r = g.R.Narrow.refuses in
    let v = g.R.Narrow.is_value in
    let some = sym c.has_rows.ensures ∙ c.if-has_rows.true in
    let low = unified_depth r v c.args.children.items c.in_ok-met.met c.requires.branches c.in_ok-met.ensures.form c.in_ok-met.ensures.refused in
    made_branch r v c.in_ok-new.field-0 c.into_root.result c.in_ok-met.met c.in_ok-new.ensures.node c.into_root.ensures.same c.into_root.ensures.form some low

pub returns-then-has_rows-clause-refused : goal.returns-then-has_rows-clause-refused
returns-then-has_rows-clause-refused g c =
    IfOk-weaker c.of_branch.result _ _
    (λ table is. one_step_given g.R.Narrow.refuses c.args.step c.args.children.items c.in_ok-new.field-0 c.in_ok-met.met table c.requires.step c.in_ok-met.ensures.refused c.in_ok-new.ensures.step
    (c.in_ok-new.ensures.node ∙ c.into_root.ensures.same) is) c.of_branch.ensures

pub returns-clause-refused : goal.returns-clause-refused
returns-clause-refused g c =
    nothing_given g.R.Narrow.refuses c.args.children.items c.in_ok-met.met (sym c.has_rows.ensures ∙ c.if-has_rows.false) c.in_ok-met.ensures.refused
