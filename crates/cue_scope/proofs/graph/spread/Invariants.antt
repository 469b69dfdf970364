use Rattle.std.proofs.Common.{◌≡◌, drop}
use Rattle.std.specs.Vec.{vec_capacity}
use Rattle.cue_scope.proofs.Flooding.{Spreading}
use Rattle.cue_scope.proofs.graph.spread.Given as goal

abbrev pub invariant-loop-node : goal.invariant-loop-node
invariant-loop-node l = record {
  spreading : Spreading l.initial.reached.items l.reached.items l.initial.waiting.items l.waiting.items l.nodes (drop l.node-index l.nodes);
  room : vec_capacity l.waiting ≡ vec_capacity l.initial.waiting;
}
