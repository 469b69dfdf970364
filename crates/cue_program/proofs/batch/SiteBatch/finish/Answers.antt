use Rattle.cue_program.proofs.Batches.{all_taken}
use Rattle.cue_program.proofs.batch.SiteBatch.finish.Goals as goal

pub returns : goal.returns
returns c pieces h = all_taken c.args.self.site c.args.self.batch c.unify.new.self pieces h c.in_ok-unify.ensures.ok c.in_ok-unify.ensures.valid
