use Rattle.cue_layers.proofs.Taking.{read_in_pieces}
use Rattle.cue_layers.proofs.laws.layers_are_read_in_pieces.Goals as goal

pub returns : goal.returns
returns c = read_in_pieces
