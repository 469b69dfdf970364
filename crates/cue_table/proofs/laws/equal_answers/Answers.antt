use Rattle.cue_table.proofs.Exact.{exact_tree}
use Rattle.cue_table.proofs.laws.equal_answers.Goals as goal

pub returns : goal.returns
returns g c a b h k same = exact_tree g.R.Narrow.refuses g.R.Narrow.is_value g.met.R.Narrow.exact a b h k same
