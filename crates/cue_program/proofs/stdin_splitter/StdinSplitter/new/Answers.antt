use Rattle.std.proofs.Common.{refl}
use Rattle.cue_program.proofs.Takings.{taken_none}
use Rattle.cue_program.proofs.stdin_splitter.StdinSplitter.new.Goals as goal

pub returns : goal.returns
returns c = taken_none _ c.new.ensures refl c.new-2.ensures.items c.new-3.ensures.items
