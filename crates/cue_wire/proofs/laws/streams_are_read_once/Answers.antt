use Rattle.cue_wire.proofs.Readings.{are_readings}
use Rattle.cue_wire.proofs.laws.streams_are_read_once.Goals as goal

pub returns : goal.returns
returns c = are_readings
