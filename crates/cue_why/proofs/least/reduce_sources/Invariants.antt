use Rattle.std.proofs.Common.{[], map, vec_len}
use Rattle.cue_row.specs.Steps.{step_of}
use Rattle.cue_why.specs.Inner.Stacks.{ahead_of}
use Rattle.cue_why.proofs.Stacks.{GoesOn}
use Rattle.cue_why.proofs.least.reduce_sources.Given as goal

abbrev pub invariant-loop-one : goal.invariant-loop-one
invariant-loop-one l = GoesOn l.finding (map step_of l.path) (ahead_of [] l.fn.stack.items) l.kept.items l.left.items l.own.items

abbrev pub decreases-loop-one : goal.decreases-loop-one
decreases-loop-one l = vec_len l.left
