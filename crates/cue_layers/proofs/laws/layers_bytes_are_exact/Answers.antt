use Rattle.cue_layers.proofs.OneSpelling.{one_of_bytes, map_of_bytes}
use Rattle.cue_layers.proofs.laws.layers_bytes_are_exact.Goals as goal

pub returns-clause-one : goal.returns-clause-one
returns-clause-one c = one_of_bytes

pub returns-clause-puts : goal.returns-clause-puts
returns-clause-puts c = map_of_bytes
