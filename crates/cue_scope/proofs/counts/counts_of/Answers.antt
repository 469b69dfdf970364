use Rattle.std.proofs.Common.{arith, ◌≡◌, ◌<◌, length, get_or, ap, ◌∙◌, add-one}
use Rattle.std.proofs.lemmas.List.{length-replicate}
use Rattle.cue_scope.specs.Ordering.{graph_of}
use Rattle.cue_scope.specs.Reached.{times_in_list}
use Rattle.cue_scope.proofs.Nodes.{in_at, target_inside}
use Rattle.cue_scope.proofs.Counting.{targets_more}
use Rattle.cue_scope.proofs.counts.counts_of.Goals as goal

pub count-requires : goal.count-requires
count-requires c = λ i is.
    let inside = c.requires.inside i is in
    let same : length c.in_ok-counts.counts.items ≡ length c.args.graph.now = ap length c.in_ok-counts.ensures.zeros ∙ length-replicate (length c.args.graph.now) 0 in
    omega arith

pub targets-requires : goal.targets-requires
targets-requires c = c.requires.nodes (get_or c.args.nodes.now c.loop-node.node-index 0) (in_at c.args.nodes.now c.loop-node.node-index c.loop-node-test.true)

pub count-requires-in-loop-node : goal.count-requires-in-loop-node
count-requires-in-loop-node c = λ j is.
    let inside : j < length c.args.graph.now = target_inside c.args.graph.now (get_or c.args.nodes.now c.loop-node.node-index 0) j c.targets.result.now c.requires.closed c.targets.ensures is in
    let same = c.loop-node.invariant.lengths in
    omega arith

pub loop-node-preserved : goal.loop-node-preserved
loop-node-preserved c =
    let same = c.loop-node.invariant.lengths in
    rw add-one (record {
      lengths = c.count-in-loop-node.ensures.length ∙ same;
      counted = λ i h.
          let more = targets_more (graph_of c.args.graph.now) c.args.from.now c.args.nodes.now i c.loop-node.node-index c.loop-node-test.true in
          let now = c.count-in-loop-node.ensures.counted i (omega arith) in
          let named = ap (times_in_list i) c.targets.ensures in
          let before = c.loop-node.invariant.counted i h in
          omega arith;
    })
