use Rattle.cue_replica.proofs.Reading.{are_read_in_pieces}
use Rattle.cue_replica.proofs.language.states_are_read_in_pieces.Goals as goal

pub returns : goal.returns
returns c = are_read_in_pieces
