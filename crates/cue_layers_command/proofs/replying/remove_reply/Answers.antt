use Rattle.std.proofs.Common.{inl}
use Rattle.cue_layers_command.proofs.replying.remove_reply.Goals as goal

pub returns-in-Err-clause-fault : goal.returns-in-Err-clause-fault
returns-in-Err-clause-fault g c known = inl (c.in-Err.stop, c.in-Err.ensures.stop, c.from.ensures)
