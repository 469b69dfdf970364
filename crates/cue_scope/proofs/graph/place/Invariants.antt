use Rattle.std.proofs.Common.{eqb}
use Rattle.std.specs.List.{count_by}
use Rattle.cue_scope.specs.Ordering.{graph_of}
use Rattle.cue_scope.specs.Inner.Ordering.{IsPlaced}
use Rattle.cue_scope.proofs.graph.place.Given as goal

abbrev pub invariant-loop-node : goal.invariant-loop-node
invariant-loop-node l = IsPlaced (graph_of l.graph) l.order.items l.ranks.items

abbrev pub invariant-loop-node-2 : goal.invariant-loop-node-2
invariant-loop-node-2 l = IsPlaced (graph_of l.graph) l.order.items l.ranks.items

abbrev pub decreases-loop-node-2 : goal.decreases-loop-node-2
decreases-loop-node-2 l = count_by (λ r. eqb r 0) l.ranks.items
