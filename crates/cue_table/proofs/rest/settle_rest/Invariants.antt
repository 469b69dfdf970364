use Rattle.cue_table.specs.Form.{IsRowKept}
use Rattle.cue_table.specs.Inner.View.{run_branches}
use Rattle.cue_table.proofs.Settling.{Settles}
use Rattle.cue_table.proofs.rest.settle_rest.Given as goal

abbrev pub invariant-loop-first : goal.invariant-loop-first
invariant-loop-first g l =
    Settles (IsRowKept g.R.Narrow.refuses g.R.Narrow.is_value) l.fn.fixed l.node (run_branches l.fn.runs.items) l.runs.items l.from

abbrev pub decreases-loop-first : goal.decreases-loop-first
decreases-loop-first g l = l.from
