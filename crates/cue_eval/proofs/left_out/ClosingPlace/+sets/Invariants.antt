use Rattle.std.proofs.Common.{◌+◌, ◌*◌, ◌<◌, ◌≤◌, ◌^◌, All, drop}
use Rattle.std.specs.BinaryHeap.{IsHeap, heap_items, heap_len}
use Rattle.std.specs.Ordering.{nat_cmp}
use Rattle.cue_lattice.specs.Limits.{step_limit}
use Rattle.cue_table.specs.Depth.{tree_depth}
use Rattle.cue_table.specs.Size.{tree_size}
use Rattle.cue_eval.specs.Inner.Adding.{AreFew}
use Rattle.cue_eval.proofs.Bounds.{IsUnderway}
use Rattle.cue_eval.proofs.LabelTables.{Adding}
use Rattle.cue_eval.proofs.left_out.ClosingPlace.+sets.Given as goal

abbrev pub decreases-label_sets : goal.decreases-label_sets
decreases-label_sets l = 4 * tree_size l.self.now.own + 3

abbrev pub decreases-and_elements : goal.decreases-and_elements
decreases-and_elements l = 4 * tree_size l.self.now.own + 2

abbrev pub decreases-stretches : goal.decreases-stretches
decreases-stretches l = 4 * tree_size l.self.now.own + 1

abbrev pub decreases-element : goal.decreases-element
decreases-element l = 4 * tree_size l.self.now.own

abbrev pub decreases-fields : goal.decreases-fields
decreases-fields l = 4 * tree_size l.self.now.own

abbrev pub invariant-fields-loop-step : goal.invariant-fields-loop-step
invariant-fields-loop-step l = Adding l.self l.branches.items l.steps (drop l.step-index l.steps)

-- the stretches so far, and the bounds that are left
abbrev pub invariant-stretches-loop-first : goal.invariant-stretches-loop-first
invariant-stretches-loop-first l = record {
  underway : IsUnderway l.self l.from l.stretches.items (heap_items l.bounds);
  heap : IsHeap nat_cmp (heap_items l.bounds);
  left : AreFew (heap_items l.bounds);
  few : All (λ one. one.0 ≤ 2 ^ 32) l.stretches.items;
  deep : All (λ one. tree_depth one.1 < step_limit) l.stretches.items;
}

abbrev pub decreases-stretches-loop-first : goal.decreases-stretches-loop-first
decreases-stretches-loop-first l = heap_len l.bounds
