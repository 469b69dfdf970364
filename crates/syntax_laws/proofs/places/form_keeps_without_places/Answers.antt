use Rattle.syntax_laws.proofs.Unplaced.{form_same}
use Rattle.syntax_laws.proofs.places.form_keeps_without_places.Goals as goal

pub returns : goal.returns
returns c = form_same
