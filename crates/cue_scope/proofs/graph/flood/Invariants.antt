use Rattle.std.proofs.Common.{◌≡◌, ◌+◌, ◌≤◌, not, length}
use Rattle.std.specs.List.{count_by}
use Rattle.std.specs.Vec.{vec_capacity}
use Rattle.cue_scope.specs.Ordering.{graph_of}
use Rattle.cue_scope.proofs.Flooding.{IsFlooding}
use Rattle.cue_scope.proofs.graph.flood.Given as goal

abbrev pub invariant-loop-node : goal.invariant-loop-node
invariant-loop-node l = record {
  flooding : IsFlooding (graph_of l.graph) l.from l.reached.items l.waiting.items;
  fits : count_by not l.reached.items + length l.waiting.items ≤ vec_capacity l.waiting;
  room : vec_capacity l.waiting ≡ vec_capacity l.initial.waiting;
}

abbrev pub decreases-loop-node : goal.decreases-loop-node
decreases-loop-node l = count_by not l.reached.items + length l.waiting.items
