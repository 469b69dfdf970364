use Rattle.std.proofs.Common.{length}
use Rattle.cue_layers.specs.Inner.Least.{IsLargePart}
use Rattle.cue_layers.proofs.least.leave_out_singly.Given as goal

abbrev pub invariant-rounds : goal.invariant-rounds
invariant-rounds l = IsLargePart l.limit l.fn.layers.items l.kept.items

abbrev pub decreases-rounds : goal.decreases-rounds
decreases-rounds l = length l.kept.items
