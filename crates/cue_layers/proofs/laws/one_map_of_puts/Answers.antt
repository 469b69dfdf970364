use Rattle.cue_layers.proofs.Maps.{equal_of_one_set}
use Rattle.cue_layers.proofs.laws.one_map_of_puts.Goals as goal

pub returns : goal.returns
returns c = equal_of_one_set
