use Rattle.syntax_laws.proofs.SpotsFollow.{spots_follow}
use Rattle.syntax_laws.proofs.spots.spots_follow_the_grammar.Goals as goal

pub returns : goal.returns
returns c = spots_follow
