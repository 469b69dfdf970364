use Rattle.cue_layers_world.proofs.Once.{reached_once}
use Rattle.cue_layers_world.proofs.laws.sets_are_reached_once.Goals as goal

pub returns : goal.returns
returns c = reached_once
