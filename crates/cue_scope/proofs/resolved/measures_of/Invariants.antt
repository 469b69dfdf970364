use Rattle.cue_scope.specs.Kept.{nodes_kept}
use Rattle.cue_scope.proofs.Ordered.{IsMeasuredSoFar}
use Rattle.cue_scope.proofs.resolved.measures_of.Given as goal

abbrev pub invariant-loop-number : goal.invariant-loop-number
invariant-loop-number l = IsMeasuredSoFar (nodes_kept l.definitions) l.order l.number-index l.measures.items
