use Rattle.cue_device.proofs.Telling.{told_as, begun_as}
use Rattle.cue_print.proofs.Files.{free_file, lines_file}
use Rattle.cue_print.proofs.file.push_file.Goals as goal

pub returns-in-None-clause-told : goal.returns-in-None-clause-told
returns-in-None-clause-told g c = told_as c.put.result _ _ _ _ (free_file c.args.root.now c.in-None.ensures.row) c.put.ensures.told

pub returns-in-None-clause-begun : goal.returns-in-None-clause-begun
returns-in-None-clause-begun g c = begun_as c.put.result _ _ _ _ (free_file c.args.root.now c.in-None.ensures.row) c.put.ensures.begun

pub returns-in-Some-clause-told : goal.returns-in-Some-clause-told
returns-in-Some-clause-told g c = told_as c.push_lines.result _ _ _ _ (lines_file c.args.root.now _ c.in-Some.ensures.row) c.push_lines.ensures.told

pub returns-in-Some-clause-begun : goal.returns-in-Some-clause-begun
returns-in-Some-clause-begun g c = begun_as c.push_lines.result _ _ _ _ (lines_file c.args.root.now _ c.in-Some.ensures.row) c.push_lines.ensures.begun
