use Rattle.cue_table.specs.Form.{IsRowKept}
use Rattle.cue_table.proofs.Listed.{rows_sorted, rows_listed}
use Rattle.cue_table.proofs.Loosened.{loosened}
use Rattle.cue_table.proofs.laws.rows_in_order.Goals as goal

pub returns-clause-order : goal.returns-clause-order
returns-clause-order g c = λ table h. let P = IsRowKept g.R.Narrow.refuses g.R.Narrow.is_value in rows_sorted P table (loosened P table h)

pub returns-clause-rows : goal.returns-clause-rows
returns-clause-rows g c = λ table h. let P = IsRowKept g.R.Narrow.refuses g.R.Narrow.is_value in rows_listed P table (loosened P table h)
