use Rattle.cue_replica.proofs.Sound.{sound}
use Rattle.cue_service.proofs.Worlds.{are_calls_events, are_gathers_events, are_pieces_events}
use Rattle.cue_service.proofs.laws.calls_are_events.Goals as goal

pub returns-clause-calls : goal.returns-clause-calls
returns-clause-calls g c = are_calls_events sound g.D.Disk.seen g.D.Disk.may_leave

pub returns-clause-gathers : goal.returns-clause-gathers
returns-clause-gathers g c = are_gathers_events sound g.D.Disk.seen g.D.Disk.may_leave

pub returns-clause-pieces : goal.returns-clause-pieces
returns-clause-pieces g c = are_pieces_events sound g.D.Disk.seen g.D.Disk.may_leave
