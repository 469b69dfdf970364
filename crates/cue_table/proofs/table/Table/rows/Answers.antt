use Rattle.cue_table.proofs.Listing.{all_rows}
use Rattle.cue_table.proofs.table.Table.rows.Goals as goal

pub returns-clause-rows : goal.returns-clause-rows
returns-clause-rows g c = rw (c.in_ok-push_rows.ensures, c.new-rows.ensures.items, c.root.ensures, c.root-2.ensures.branch) (all_rows _)
