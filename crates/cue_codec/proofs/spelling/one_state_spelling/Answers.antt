use Rattle.cue_codec.proofs.StateRows.{one_state}
use Rattle.cue_codec.proofs.spelling.one_state_spelling.Goals as goal

pub returns : goal.returns
returns c = one_state
