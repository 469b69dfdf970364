use Rattle.syntax_laws.proofs.Anywhere.{anywhere}
use Rattle.syntax_laws.proofs.places.tree_spelled_anywhere.Goals as goal

pub returns : goal.returns
returns c = anywhere
