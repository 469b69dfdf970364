use Rattle.cue_codec.proofs.StateRows.{one_row}
use Rattle.cue_codec.proofs.spelling.one_row_spelling.Goals as goal

pub returns : goal.returns
returns c = one_row
