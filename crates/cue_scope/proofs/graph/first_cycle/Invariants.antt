use Rattle.std.proofs.Common.{◌≡◌, ◌<◌, ◌≤◌, ℕ, length}
use Rattle.std.specs.Vec.{vec_capacity}
use Rattle.cue_scope.specs.Graph.{Reaches}
use Rattle.cue_scope.specs.Ordering.{graph_of}
use Rattle.cue_scope.proofs.graph.first_cycle.Given as goal

abbrev pub invariant-loop-node : goal.invariant-loop-node
invariant-loop-node l = record {
  none : (j : ℕ) → j < l.node → ¬ Reaches (graph_of l.graph) j j;
  flags : length l.reached.items ≡ length l.graph;
  room : length l.graph ≤ vec_capacity l.waiting;
}
