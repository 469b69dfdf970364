use Rattle.std.proofs.Common.{length}
use Rattle.cue_table.specs.Form.{IsRowKept}
use Rattle.cue_table.proofs.Drafting.{IsClosing}
use Rattle.cue_table.proofs.open.close.Given as goal

abbrev pub invariant-loop-alloc : goal.invariant-loop-alloc
invariant-loop-alloc g l = IsClosing (IsRowKept g.R.Narrow.refuses g.R.Narrow.is_value) l.count l.initial.above.items l.initial.last l.above.items l.last

abbrev pub decreases-loop-alloc : goal.decreases-loop-alloc
decreases-loop-alloc g l = length l.above.items
