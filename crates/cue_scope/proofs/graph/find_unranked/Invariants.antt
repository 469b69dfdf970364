use Rattle.std.proofs.Common.{◌<◌, ℕ, slice_index}
use Rattle.cue_scope.proofs.graph.find_unranked.Given as goal

abbrev pub invariant-loop-node : goal.invariant-loop-node
invariant-loop-node l = (k : ℕ) → k < l.node → 0 < slice_index l.ranks k
