use Rattle.cue_replica.proofs.Sound.{sound}
use Rattle.cue_wire.proofs.Worlds.{are_events}
use Rattle.cue_wire.proofs.laws.sessions_are_events.Goals as goal

pub returns : goal.returns
returns c = are_events sound
