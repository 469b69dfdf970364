use Rattle.cue_policies.proofs.ViewLaws.{more, order}
use Rattle.cue_policies.proofs.laws.views_in_any_order.Goals as goal

pub returns-clause-more : goal.returns-clause-more
returns-clause-more c = more

pub returns-clause-order : goal.returns-clause-order
returns-clause-order c = order
