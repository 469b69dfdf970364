use Rattle.std.proofs.Common.{◌≡◌, ◌<◌, ℕ, false, length, get_or}
use Rattle.cue_scope.proofs.graph.unmark.Given as goal

abbrev pub invariant-loop-node : goal.invariant-loop-node
invariant-loop-node l = record {
  lengths : length l.reached.items ≡ length l.initial.reached.items;
  none : (i : ℕ) → i < l.node → get_or l.reached.items i false ≡ false;
}
