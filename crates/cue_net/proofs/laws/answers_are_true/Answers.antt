use Rattle.cue_net.proofs.Truth.{are_true}
use Rattle.cue_net.proofs.laws.answers_are_true.Goals as goal

pub returns : goal.returns
returns c = are_true
