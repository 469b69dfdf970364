use Rattle.std.proofs.Common.{arith, ◌<◌, length, get_or, below_more}
use Rattle.std.proofs.lemmas.List.{get_or_read}
use Rattle.cue_scope.specs.Graph.{Reaches}
use Rattle.cue_scope.specs.Ordering.{graph_of}
use Rattle.cue_scope.proofs.Nodes.{length_graph_of}
use Rattle.cue_scope.proofs.Placing.{placed_no_cycle}
use Rattle.cue_scope.proofs.graph.first_cycle.Goals as goal

pub loop-node-preserved-then-index-ne0 : goal.loop-node-preserved-then-index-ne0
loop-node-preserved-then-index-ne0 c =
    let inside : c.loop-node.node < length c.args.placed.now.ranks.items =
    let a = c.requires.placed.lengths in let b = length_graph_of c.args.graph.now in let d = c.requires.inside in let e = c.loop-node-test.true in omega arith in
    let read = get_or_read c.args.placed.now.ranks.items c.loop-node.node c.index.result.now inside c.index.ensures 0 in
    let ranked : 0 < get_or c.args.placed.now.ranks.items c.loop-node.node 0 = let apart = c.if-index-ne0.true in omega arith in
    record {
      none = below_more (λ z. ¬ Reaches (graph_of c.args.graph.now) z z) c.loop-node.node c.loop-node.invariant.none
          (placed_no_cycle (graph_of c.args.graph.now) c.args.placed.now.order.items c.args.placed.now.ranks.items c.requires.placed c.loop-node.node ranked);
      flags = c.loop-node.invariant.flags;
      room = c.loop-node.invariant.room;
    }
