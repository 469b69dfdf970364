use Rattle.std.proofs.Common.{refl, sym, ◌∙◌}
use Rattle.cue_table.specs.Tree.{rest_below}
use Rattle.cue_table.proofs.ValidWalks.{no_children, no_onward, not_some}
use Rattle.cue_table.proofs.valid.is_end.Goals as goal

pub returns-in-None : goal.returns-in-None
returns-in-None c = (
  λ yes. (
    sym c.children-below.ensures.list ∙ no_children c.children-below.result c.in-None.ensures.steps.0,
    no_onward (rest_below c.args.branch.now) (sym c.rest.ensures.rest ∙ not_some c.rest.result (sym c.is_some.ensures ∙ c.if-is_some.false)),
  ),
  λ h. refl,
)
