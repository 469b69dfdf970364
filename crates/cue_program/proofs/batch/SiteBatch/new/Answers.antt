use Rattle.cue_program.proofs.Batches.{none_taken}
use Rattle.cue_program.proofs.batch.SiteBatch.new.Goals as goal

pub returns : goal.returns
returns c = none_taken c.new.result c.new-2.result c.new.ensures c.new-2.ensures
