use Rattle.std.proofs.Common.{refl}
use Rattle.cue_program.proofs.site.take_state.Goals as goal

pub returns-in-Err-clause-refused : goal.returns-in-Err-clause-refused
returns-in-Err-clause-refused c bytes taken = (c.in-Err.why, c.in-Err.ensures.refused bytes taken, refl)
