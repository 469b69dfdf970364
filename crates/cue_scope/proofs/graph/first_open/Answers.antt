use Rattle.std.proofs.Common.{rules, arith, ◌<◌, length, get_or}
use Rattle.cue_scope.proofs.Nodes.{in_at}
use Rattle.cue_scope.proofs.graph.first_open.Goals as goal

pub bounds-ranks-node : goal.bounds-ranks-node
bounds-ranks-node c = c.requires _ (in_at c.args.nodes.now c.loop-node.node-index (omega arith))

pub offset_bounds-ranks-node : goal.offset_bounds-ranks-node
offset_bounds-ranks-node c =
    let bound : get_or c.args.nodes.now c.loop-node.node-index 0 < length c.args.ranks.now = c.requires _ (in_at c.args.nodes.now c.loop-node.node-index (omega arith)) in
    search rules
