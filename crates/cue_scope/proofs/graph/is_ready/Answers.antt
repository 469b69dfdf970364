use Rattle.std.proofs.Common.{arith, ◌<◌, length}
use Rattle.cue_scope.proofs.Nodes.{target_inside}
use Rattle.cue_scope.proofs.graph.is_ready.Goals as goal

pub first_open-requires : goal.first_open-requires
first_open-requires c = λ j is.
    let inside : j < length c.args.graph.now = target_inside c.args.graph.now c.args.node j c.targets.result.now c.requires.closed c.targets.ensures is in
    let same = c.requires.lengths in
    omega arith
