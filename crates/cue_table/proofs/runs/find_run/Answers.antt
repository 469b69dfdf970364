use Rattle.std.proofs.Common.{sym}
use Rattle.cue_table.proofs.RunPlaces.{run_found, run_missing}
use Rattle.cue_table.proofs.runs.find_run.Goals as goal

pub returns-in-Ok : goal.returns-in-Ok
returns-in-Ok g c = sym (run_found c.args.runs.now c.args.number c.in-Ok.at c.index-runs-at.result c.requires c.in-Ok.ensures)

pub returns-in-Err : goal.returns-in-Err
returns-in-Err g c = sym (run_missing c.args.runs.now c.args.number c.in-Err.field-0 c.requires c.in-Err.ensures)
