use Rattle.std.proofs.Common.{[], ◌∷◌, ◌++◌}
use Rattle.cue_lattice.specs.World.{text}
use Rattle.cue_program.proofs.Batches.{one_more_taken}
use Rattle.cue_program.proofs.batch.SiteBatch.take.Goals as goal

pub returns-clause-taken : goal.returns-clause-taken
returns-clause-taken c pieces h =
    c.in_ok-grow.ensures (pieces ++ text c.args.text.now ∷ [])
    (one_more_taken c.args.self.now.site c.args.self.now.batch c.submit.new.site pieces (text c.args.text.now) h c.in_ok-submit.ensures.legal c.in_ok-submit.ensures.adds c.in_ok-submit.ensures.valid)
