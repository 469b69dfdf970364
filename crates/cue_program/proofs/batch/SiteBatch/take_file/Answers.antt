use Rattle.std.proofs.Common.{[], ◌∷◌, ◌++◌, inr}
use Rattle.cue_wire.proofs.Connections.{err_on}
use Rattle.cue_program.proofs.Batches.{one_more_taken}
use Rattle.cue_program.proofs.batch.SiteBatch.take_file.Goals as goal

pub returns-clause-taken : goal.returns-clause-taken
returns-clause-taken c bytes pieces read h =
    let more = c.in_ok-take_file.ensures.accepts bytes read in (
      more.0,
      more.1,
      c.in_ok-grow.ensures (pieces ++ more.0 ∷ [])
          (one_more_taken c.args.self.now.site c.args.self.now.batch c.take_file.new.site pieces more.0 h more.2 more.3 c.in_ok-take_file.ensures.valid),
    )

pub returns-in_err-take_file-clause-refused : goal.returns-in_err-take_file-clause-refused
returns-in_err-take_file-clause-refused c bytes read =
    err_on c.from_residual.result c.in_err-take_file.field-0.0 _ c.from_residual.ensures.1
    (inr (c.in_err-take_file.ensures.refused bytes read))
