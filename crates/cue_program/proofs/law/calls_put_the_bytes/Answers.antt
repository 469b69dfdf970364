use Rattle.cue_program.proofs.Effects.{are_put}
use Rattle.cue_program.proofs.law.calls_put_the_bytes.Goals as goal

pub returns : goal.returns
returns g c = are_put g.S.FileSystem.makes
