use Rattle.cue_scope.proofs.components.ComponentSearch.leave.Given as goal

abbrev pub decreases-loop-last : goal.decreases-loop-last
decreases-loop-last l = goal.left-loop-last l
