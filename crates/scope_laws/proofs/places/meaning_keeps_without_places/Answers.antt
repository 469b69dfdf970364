use Rattle.scope_laws.proofs.Meant.{meant_alike}
use Rattle.scope_laws.proofs.places.meaning_keeps_without_places.Goals as goal

pub returns : goal.returns
returns c = meant_alike
