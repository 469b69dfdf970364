use Rattle.std.proofs.Common.{length}
use Rattle.cue_table.proofs.chain.+build_along.Given as goal

abbrev pub decreases-build_along : goal.decreases-build_along
decreases-build_along g l = length l.steps.now
