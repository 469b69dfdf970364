use Rattle.cue_why.proofs.Mets.{IsMetTo}
use Rattle.cue_why.proofs.met.meet_trails.Given as goal

abbrev pub invariant-loop-i : goal.invariant-loop-i
invariant-loop-i l = IsMetTo l.one l.other l.rows.items l.i
