use Rattle.std.proofs.Common.{◌≡◌, ◌<◌, ℕ, true, false, not, length, get_or, slice_index}
use Rattle.std.specs.List.{count_by}
use Rattle.cue_scope.specs.Graph.{Reaches}
use Rattle.cue_scope.specs.Ordering.{graph_of}
use Rattle.cue_scope.proofs.graph.find_cycle.Given as goal

abbrev pub invariant-loop-passed : goal.invariant-loop-passed
invariant-loop-passed l = record {
  inside : l.node < length l.ranks;
  unplaced : slice_index l.ranks l.node ≡ 0;
  lengths : length l.passed.items ≡ length l.ranks;
  passed : (m : ℕ) → get_or l.passed.items m false ≡ true → Reaches (graph_of l.graph) m l.node;
}

abbrev pub decreases-loop-passed : goal.decreases-loop-passed
decreases-loop-passed l = count_by not l.passed.items
