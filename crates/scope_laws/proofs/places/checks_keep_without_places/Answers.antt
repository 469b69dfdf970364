use Rattle.scope_laws.proofs.Checked.{checked_alike}
use Rattle.scope_laws.proofs.places.checks_keep_without_places.Goals as goal

pub returns : goal.returns
returns c = checked_alike
