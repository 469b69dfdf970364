use Rattle.std.proofs.Common.{sym, ◌∙◌}
use Rattle.cue_table.proofs.Nodes.{taken_below}
use Rattle.cue_table.proofs.node.Node.non_empty.Goals as goal

pub returns-in-None-None-2 : goal.returns-in-None-None-2
returns-in-None-None-2 g c =
    let children = c.self.inside.children in
    rw (← c.self.view_is)
    (sym (taken_below c.self.inside.row children.items c.self.inside.rest children.len children.ok.0 (sym c.if-is_empty.false ∙ c.is_empty.ensures)))
