use Rattle.std.proofs.Common.{map, string_bytes, inl}
use Rattle.cue_command.proofs.acting.run.Goals as goal

pub returns-in-Ok : goal.returns-in-Ok
returns-in-Ok g c = inl (map string_bytes c.deref.result.now, c.act.ensures)
