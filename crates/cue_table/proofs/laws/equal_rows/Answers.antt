use Rattle.cue_table.specs.Form.{IsRowKept}
use Rattle.cue_table.proofs.Loosened.{loosened}
use Rattle.cue_table.proofs.RowLists.{same_lists}
use Rattle.cue_table.proofs.laws.equal_rows.Goals as goal

pub returns : goal.returns
returns g c a b h k same =
    let P = IsRowKept g.R.Narrow.refuses g.R.Narrow.is_value in
    same_lists P a b (loosened P a h) (loosened P b k) same
