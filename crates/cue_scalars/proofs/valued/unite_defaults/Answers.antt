use Rattle.std.proofs.Common.{rules}
use Rattle.cue_scalars.proofs.Disjunctions.{united_some}
use Rattle.cue_scalars.proofs.valued.unite_defaults.Goals as goal

pub returns : goal.returns
returns c = united_some c.in_ok-union_all.field-0 c.args.usuals.items (λ none. search rules) c.in_ok-union_all.ensures
