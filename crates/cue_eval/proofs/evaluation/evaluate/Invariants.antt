use Rattle.cue_scope.specs.Definitions.{definitions}
use Rattle.cue_scope.specs.Files.{entries_of}
use Rattle.cue_scope.specs.Uses.{uses_of_fields}
use Rattle.cue_eval.specs.Inner.Finding.{IsFoundSoFar}
use Rattle.cue_eval.proofs.evaluation.evaluate.Given as goal

abbrev pub invariant-loop-number : goal.invariant-loop-number
invariant-loop-number l =
    let es = entries_of l.resolved in
    IsFoundSoFar (definitions es) (uses_of_fields (definitions es) es) l.order l.number-index l.found
