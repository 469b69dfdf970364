use Rattle.std.proofs.Common.{sym, ap, ◌∙◌, arith}
use Rattle.cue_policies.specs.Inner.Rows.{tree_rows}
use Rattle.cue_policies.proofs.Counting.{rows_counted}
use Rattle.cue_policies.proofs.view.count_rows.Goals as goal

pub returns-in-Some-clause-rows : goal.returns-in-Some-clause-rows
returns-in-Some-clause-rows c =
    (c.in-Some.ensures.0 ∙ ap (λ t. tree_rows t) c.root.ensures.branch ∙ sym (rows_counted c.args.table), c.in-Some.ensures.1)

pub returns-in-None-clause-large : goal.returns-in-None-clause-large
returns-in-None-clause-large c =
    let counted = rows_counted c.args.table in
    let same = ap (λ t. tree_rows t) c.root.ensures.branch in
    (c.root.ensures.form, omega (arith, c.in-None.ensures, counted, same))
