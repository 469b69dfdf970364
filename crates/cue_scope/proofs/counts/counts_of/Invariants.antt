use Rattle.std.proofs.Common.{◌≡◌, ◌<◌, ◌-◌, ◌^◌, ◌++◌, ℕ, min, length, get_or, take}
use Rattle.cue_scope.specs.Ordering.{graph_of}
use Rattle.cue_scope.specs.Reached.{times_in_list, targets_of}
use Rattle.cue_scope.proofs.counts.counts_of.Given as goal

abbrev pub invariant-loop-node : goal.invariant-loop-node
invariant-loop-node l = record {
  lengths : length l.counts.items ≡ length l.graph;
  counted : (i : ℕ) → i < length l.graph → get_or l.counts.items i 0 ≡ min (times_in_list i (l.from ++ targets_of (graph_of l.graph) (take l.node-index l.nodes))) (2 ^ 64 - 1);
}
