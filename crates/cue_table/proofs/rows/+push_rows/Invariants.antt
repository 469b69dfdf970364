use Rattle.std.proofs.Common.{◌≡◌, ◌≤◌, ◌++◌, map}
use Rattle.cue_table.specs.Tree.{below}
use Rattle.cue_table.specs.Slots.{rows_of}
use Rattle.cue_table.specs.Size.{tree_size, children_size}
use Rattle.cue_table.specs.Depth.{children_depth}
use Rattle.cue_table.specs.Inner.Rows.{row_beyond}
use Rattle.cue_table.proofs.ListingRows.{left_rows}
use Rattle.cue_table.proofs.rows.+push_rows.Given as goal

abbrev pub decreases-push_rows : goal.decreases-push_rows
decreases-push_rows g l = tree_size l.branch.now

-- what was written and what is left are all
abbrev pub invariant-loop-step : goal.invariant-loop-step
invariant-loop-step g l = record {
  rows : map (λ row. (row.0, row.1.now)) l.rows.items ++ left_rows l.place l.step-iterator l.branch
      ≡ map (λ row. (row.0, row.1.now)) l.fn.rows.items ++ map (row_beyond l.place) (rows_of l.branch);
  smaller : children_size l.step-iterator ≤ children_size (below l.branch);
  deep : children_depth l.step-iterator ≤ children_depth (below l.branch);
}
