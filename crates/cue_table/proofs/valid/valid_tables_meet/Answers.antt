use Rattle.cue_table.proofs.MetTables.{met_tables}
use Rattle.cue_table.proofs.valid.valid_tables_meet.Goals as goal

pub returns : goal.returns
returns c = met_tables
