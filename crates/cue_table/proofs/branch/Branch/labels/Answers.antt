use Rattle.std.proofs.Common.{ap, ◌∙◌}
use Rattle.cue_table.specs.Form.{IsRowKept}
use Rattle.cue_table.specs.Inner.View.{branches}
use Rattle.cue_table.specs.Tree.{below, labels_of}
use Rattle.cue_table.proofs.Nodes.{branches_form}
use Rattle.cue_table.proofs.Ways.{labels_below}
use Rattle.cue_table.proofs.branch.Branch.labels.Goals as goal

pub new-requires : goal.new-requires
new-requires g c =
    let P = IsRowKept g.R.Narrow.refuses g.R.Narrow.is_value in
    rw c.deref.ensures.value (branches_form P c.node.inside c.self.inside.node.now c.node.view_is c.self.invariant)

pub returns-clause-list : goal.returns-clause-list
returns-clause-list g c =
    c.new.ensures ∙ ap (λ cs. labels_of (branches cs)) c.deref.ensures.value ∙ labels_below c.node.inside.children.items c.node.inside.rest
    ∙ ap (λ t. labels_of (below t)) (c.node.view_is ∙ c.self.view_is)
