use Rattle.cue_layers_world.proofs.Alike.{one_view}
use Rattle.cue_layers_world.proofs.laws.one_view_of_a_map.Goals as goal

pub returns : goal.returns
returns c = one_view
