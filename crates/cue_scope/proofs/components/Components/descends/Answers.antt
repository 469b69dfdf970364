use Rattle.std.proofs.Common.{arith, ◌≤◌, ⊎_elim, ℕ, slice_index, below_more}
use Rattle.cue_scope.specs.Graph.{PointsTo}
use Rattle.cue_scope.specs.Ordering.{graph_of}
use Rattle.cue_scope.proofs.Nodes.{in_drop_none}
use Rattle.cue_scope.proofs.components.Components.descends.Goals as goal

pub loop-node-preserved : goal.loop-node-preserved
loop-node-preserved c = λ i j h points.
    below_more (λ z. (j : ℕ) → PointsTo (graph_of c.args.graph.now) z j → slice_index c.args.self.now.numbers.items j ≤ slice_index c.args.self.now.numbers.items z) c.loop-node.node
    (λ z less j points. c.loop-node.invariant z j less points)
    (λ j points. ⊎_elim (λ fell. fell) (λ left. absurd (in_drop_none c.loop-target.target-index c.targets-target-items.result.now j (omega arith) left)) (c.loop-target.invariant j points))
    i h j points
