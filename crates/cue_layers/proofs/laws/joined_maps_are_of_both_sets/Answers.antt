use Rattle.cue_layers.proofs.Maps.{joins_puts}
use Rattle.cue_layers.proofs.laws.joined_maps_are_of_both_sets.Goals as goal

pub returns : goal.returns
returns c = joins_puts
