use Rattle.cue_policies.proofs.ViewLaws.{two}
use Rattle.cue_policies.proofs.laws.views_of_two.Goals as goal

pub returns : goal.returns
returns c = two
