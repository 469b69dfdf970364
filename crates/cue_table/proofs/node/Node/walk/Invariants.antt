use Rattle.std.proofs.Common.{◌≡◌, map, drop}
use Rattle.cue_table.specs.Tree.{branch_at}
use Rattle.cue_table.specs.Form.{IsTable}
use Rattle.cue_row.specs.Steps.{step_of}
use Rattle.cue_table.proofs.node.Node.walk.Given as goal

abbrev pub invariant-loop-step : goal.invariant-loop-step
invariant-loop-step g l = record {
  form : IsTable g.R.Narrow.refuses g.R.Narrow.is_value l.node;
  rest : branch_at l.node (map step_of (drop l.step-index l.steps)) ≡ branch_at l.self (map step_of l.steps);
}
