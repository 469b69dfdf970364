use Rattle.cue_lattice.specs.World.{state}
use Rattle.cue_replica.proofs.Accepted.{of_one_piece_more}
use Rattle.cue_embed.proofs.site.take.Goals as goal

pub returns-in-Ok-clause-accepts : goal.returns-in-Ok-clause-accepts
returns-in-Ok-clause-accepts c =
    λ pieces is. of_one_piece_more c.args.site.now c.take.new.self pieces (state c.args.bytes.now) is c.in-Ok.ensures.state c.in-Ok.ensures.ok c.in-Ok.ensures.valid
