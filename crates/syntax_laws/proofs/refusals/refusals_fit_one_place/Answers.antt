use Rattle.syntax_laws.proofs.OnePlace.{one_place}
use Rattle.syntax_laws.proofs.refusals.refusals_fit_one_place.Goals as goal

pub returns : goal.returns
returns c = one_place
