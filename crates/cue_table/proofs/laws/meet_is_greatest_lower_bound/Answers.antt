use Rattle.cue_table.proofs.Lattice.{commute, associate, repeat, narrow, widest}
use Rattle.cue_table.proofs.laws.meet_is_greatest_lower_bound.Goals as goal

pub returns-clause-commutative : goal.returns-clause-commutative
returns-clause-commutative g c = commute g.R.Narrow.refuses g.R.Narrow.is_value g.met.R.Narrow.exact

pub returns-clause-associative : goal.returns-clause-associative
returns-clause-associative g c = associate g.R.Narrow.refuses g.R.Narrow.is_value g.met.R.Narrow.exact

pub returns-clause-idempotent : goal.returns-clause-idempotent
returns-clause-idempotent g c = repeat g.R.Narrow.refuses g.R.Narrow.is_value g.met.R.Narrow.exact

pub returns-clause-narrow : goal.returns-clause-narrow
returns-clause-narrow g c = narrow g.R.Narrow.refuses

pub returns-clause-widest : goal.returns-clause-widest
returns-clause-widest g c = widest g.R.Narrow.refuses
