use Rattle.cue_codec.proofs.ReadStates.{one_table}
use Rattle.cue_codec.proofs.spelling.one_table_spelling.Goals as goal

pub returns : goal.returns
returns c = one_table
