use Rattle.std.proofs.Common.{map, vec_len}
use Rattle.cue_row.specs.Steps.{step_of}
use Rattle.cue_why.proofs.Stacks.{AreTraced}
use Rattle.cue_why.proofs.least.trace_all.Given as goal

abbrev pub invariant-loop-source : goal.invariant-loop-source
invariant-loop-source l = AreTraced (map step_of l.path) l.fn.sources.items l.left.items l.stack.items l.behind.items

abbrev pub decreases-loop-source : goal.decreases-loop-source
decreases-loop-source l = vec_len l.left
