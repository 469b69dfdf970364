use Rattle.std.proofs.Common.{sym}
use Rattle.cue_table.specs.Form.{IsRowKept}
use Rattle.cue_table.proofs.Finding.{tree_rises, found_form}
use Rattle.cue_table.proofs.branch.Branch.find.Goals as goal

pub step_into-requires : goal.step_into-requires
step_into-requires g c = tree_rises (IsRowKept g.R.Narrow.refuses g.R.Narrow.is_value) c.self.inside.node.now c.self.invariant

pub new-requires : goal.new-requires
new-requires g c =
    let found = found_form (IsRowKept g.R.Narrow.refuses g.R.Narrow.is_value) _ c.self.inside.node.now c.in-Some.found.now c.self.invariant (sym c.in-Some.ensures) in
    found.1
