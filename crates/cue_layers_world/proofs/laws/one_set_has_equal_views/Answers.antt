use Rattle.cue_layers_world.proofs.Alike.{equal_views_of_one_set}
use Rattle.cue_layers_world.proofs.laws.one_set_has_equal_views.Goals as goal

pub returns : goal.returns
returns c = equal_views_of_one_set
