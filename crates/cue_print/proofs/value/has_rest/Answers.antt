use Rattle.std.proofs.Common.{ap, ◌∙◌}
use Rattle.std.specs.Prelude.{is_some}
use Rattle.cue_table.specs.Tree.{rest_below}
use Rattle.cue_print.proofs.Found.{rest_is_some}
use Rattle.cue_print.proofs.value.has_rest.Goals as goal

pub returns : goal.returns
returns c = c.is_some.ensures ∙ ap is_some c.rest.ensures.rest ∙ rest_is_some (rest_below c.args.branch.now)
