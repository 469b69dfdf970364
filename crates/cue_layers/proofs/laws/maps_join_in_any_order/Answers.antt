use Rattle.cue_layers.proofs.Maps.{commutative, associative, idempotent}
use Rattle.cue_layers.proofs.laws.maps_join_in_any_order.Goals as goal

pub returns-clause-commutative : goal.returns-clause-commutative
returns-clause-commutative c = commutative

pub returns-clause-associative : goal.returns-clause-associative
returns-clause-associative c = associative

pub returns-clause-idempotent : goal.returns-clause-idempotent
returns-clause-idempotent c = idempotent
