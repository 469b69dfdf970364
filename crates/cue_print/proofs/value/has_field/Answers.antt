use Rattle.std.proofs.Common.{sym, ◌∙◌}
use Rattle.cue_table.specs.Tree.{below}
use Rattle.cue_print.proofs.Fields.{no_field, some_field}
use Rattle.cue_print.proofs.value.has_field.Goals as goal

pub returns-in-None : goal.returns-in-None
returns-in-None c = no_field (below c.args.branch.now) (sym c.labels-labels.ensures.list ∙ c.in-None.ensures.steps.0)

pub returns-in-Some : goal.returns-in-Some
returns-in-Some c = some_field (below c.args.branch.now) _ _ (sym c.labels-labels.ensures.list ∙ c.in-Some.ensures.steps)
