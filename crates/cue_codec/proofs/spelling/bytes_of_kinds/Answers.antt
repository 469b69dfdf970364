use Rattle.cue_codec.proofs.ValidRows.{bytes_of_kinds}
use Rattle.cue_codec.proofs.spelling.bytes_of_kinds.Goals as goal

pub returns : goal.returns
returns c = bytes_of_kinds
