use Rattle.std.proofs.Common.{sym, subst}
use Rattle.cue_table.specs.Form.{IsRowKept, AreBranches}
use Rattle.cue_table.proofs.Ways.{tree_below}
use Rattle.cue_table.proofs.branch.Branch.children.Goals as goal

pub new-requires : goal.new-requires
new-requires g c =
    let P = IsRowKept g.R.Narrow.refuses g.R.Narrow.is_value in
    subst (AreBranches P) (sym c.cursor.ensures.all) (tree_below P c.self.inside.node.now c.self.invariant)
