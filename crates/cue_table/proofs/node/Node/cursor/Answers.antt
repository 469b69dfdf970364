use Rattle.std.proofs.Common.{ap, ◌∙◌}
use Rattle.cue_table.specs.Tree.{below}
use Rattle.cue_table.specs.Inner.Join.{join_children}
use Rattle.cue_table.specs.Inner.View.{branches, run_branches}
use Rattle.cue_table.proofs.Ways.{spread_place, below_joined}
use Rattle.cue_table.proofs.node.Node.cursor.Goals as goal

pub returns-clause-all : goal.returns-clause-all
returns-clause-all g c =
    spread_place c.deref.result.now c.runs_behind.result.now
    ∙ ap (λ cs. join_children (branches cs) (run_branches c.runs_behind.result.now)) c.deref.ensures.value
    ∙ ap (join_children (branches c.self.inside.children.items)) c.runs_behind.ensures
    ∙ below_joined (branches c.self.inside.children.items) c.self.inside.rest
    ∙ ap below c.self.view_is
