use Rattle.std.proofs.Common.{◌≡◌, ◌<◌, ◌+◌, ◌-◌, ◌^◌, ℕ, min, length, get_or, take}
use Rattle.cue_scope.specs.Reached.{times_in_list}
use Rattle.cue_scope.proofs.counts.count.Given as goal

abbrev pub invariant-loop-node : goal.invariant-loop-node
invariant-loop-node l = record {
  lengths : length l.counts.items ≡ length l.initial.counts.items;
  counted : (i : ℕ) → i < length l.initial.counts.items → get_or l.counts.items i 0 ≡ min (get_or l.initial.counts.items i 0 + times_in_list i (take l.node-index l.nodes)) (2 ^ 64 - 1);
}
