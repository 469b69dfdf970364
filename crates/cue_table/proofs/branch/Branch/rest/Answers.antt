use Rattle.std.proofs.Common.{Some}
use Rattle.cue_table.specs.Form.{IsRowKept}
use Rattle.cue_table.proofs.Sweeping.{rest_branch}
use Rattle.cue_table.proofs.branch.Branch.rest.Goals as goal

pub new-requires : goal.new-requires
new-requires g c =
    let found = rest_branch (IsRowKept g.R.Narrow.refuses g.R.Narrow.is_value) c.self.inside.node.now (Some c.in-Some.found.now) c.self.invariant c.in-Some.ensures in
    found.1
