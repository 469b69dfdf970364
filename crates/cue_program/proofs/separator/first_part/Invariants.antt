use Rattle.std.proofs.Common.{length}
use Rattle.cue_program.proofs.Lines.{Walked}
use Rattle.cue_program.proofs.separator.first_part.Given as goal

abbrev pub invariant-loop-rest : goal.invariant-loop-rest
invariant-loop-rest l = Walked l.bytes l.rest

abbrev pub decreases-loop-rest : goal.decreases-loop-rest
decreases-loop-rest l = length l.rest
