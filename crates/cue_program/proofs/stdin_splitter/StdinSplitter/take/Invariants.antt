use Rattle.std.proofs.Common.{length, List, ℕ}
use Rattle.cue_program.specs.inner.Taking.{HasTaken}
use Rattle.cue_program.proofs.Takings.{IsTakenUpTo}
use Rattle.cue_program.proofs.stdin_splitter.StdinSplitter.take.Given as goal

abbrev pub invariant-loop-end : goal.invariant-loop-end
invariant-loop-end l = (front : List ℕ) → HasTaken l.fn.self front → IsTakenUpTo l.self front l.fn.piece l.rest

abbrev pub decreases-loop-end : goal.decreases-loop-end
decreases-loop-end l = length l.rest
