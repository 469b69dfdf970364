use Rattle.std.specs.Vec.Iter.{into_iter_items, into_iter_len}
use Rattle.cue_table.specs.Form.{IsRowKept}
use Rattle.cue_table.proofs.Stretches.{AreElementsFrom}
use Rattle.cue_table.proofs.elements.runs_before.Given as goal

abbrev pub invariant-loop-start : goal.invariant-loop-start
invariant-loop-start g l =
    AreElementsFrom (IsRowKept g.R.Narrow.refuses g.R.Narrow.is_value) l.from (into_iter_items l.fn.stretches) (into_iter_items l.stretches) l.runs.items l.end

abbrev pub decreases-loop-start : goal.decreases-loop-start
decreases-loop-start g l = into_iter_len l.stretches
