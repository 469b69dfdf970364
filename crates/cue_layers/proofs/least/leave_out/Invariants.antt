use Rattle.cue_layers.specs.Inner.Least.{IsLargePart}
use Rattle.cue_layers.proofs.least.leave_out.Given as goal

abbrev pub invariant-sizes : goal.invariant-sizes
invariant-sizes l = IsLargePart l.limit l.fn.layers.items l.kept.items

abbrev pub decreases-sizes : goal.decreases-sizes
decreases-sizes l = l.size
