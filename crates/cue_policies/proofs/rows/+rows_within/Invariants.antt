use Rattle.std.proofs.Common.{◌≡◌, ◌+◌, ◌≤◌}
use Rattle.cue_table.specs.Spans.{branches_of_spans}
use Rattle.cue_table.specs.Tree.{row_of, below}
use Rattle.cue_table.specs.Size.{tree_size, children_size}
use Rattle.cue_policies.specs.Inner.Rows.{own_rows, children_rows}
use Rattle.cue_policies.proofs.rows.+rows_within.Given as goal

abbrev pub decreases-rows_within : goal.decreases-rows_within
decreases-rows_within l = tree_size l.branch.now

-- what was counted and what is left are all
abbrev pub invariant-loop-span : goal.invariant-loop-span
invariant-loop-span l = record {
  counted : l.rows + children_rows (branches_of_spans l.span-iterator) ≡ own_rows (row_of l.branch) + children_rows (below l.branch);
  within : l.rows ≤ l.most;
  smaller : children_size (branches_of_spans l.span-iterator) ≤ children_size (below l.branch);
}
