use Rattle.cue_scope.specs.Ordering.{graph_of}
use Rattle.cue_scope.proofs.Kept.{IsKeptSoFar}
use Rattle.cue_scope.proofs.resolved.keep_reached.Given as goal

abbrev pub invariant-loop-number : goal.invariant-loop-number
invariant-loop-number l = IsKeptSoFar (graph_of l.graph) l.from l.order l.number-index l.kept.items
