use Rattle.syntax_laws.proofs.Unplaced.{levels_keep}
use Rattle.syntax_laws.proofs.places.levels_keep_without_places.Goals as goal

pub returns : goal.returns
returns c = levels_keep
