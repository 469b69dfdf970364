use Rattle.std.proofs.Common.{◌<◌, ◌⊎◌, ℕ, drop, slice_index}
use Rattle.cue_scope.specs.Graph.{PointsTo, IsNodeIn}
use Rattle.cue_scope.specs.Ordering.{graph_of}
use Rattle.cue_scope.proofs.components.Components.descends_from.Given as goal

abbrev pub invariant-loop-target : goal.invariant-loop-target
invariant-loop-target l = (j : ℕ) → PointsTo (graph_of l.graph) l.node j → (slice_index l.self.numbers.items j < slice_index l.self.numbers.items l.node) ⊎ IsNodeIn j (drop l.target-index l.target-items)
