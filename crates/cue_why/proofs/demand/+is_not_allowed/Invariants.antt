use Rattle.std.proofs.Common.{length}
use Rattle.cue_why.proofs.demand.+is_not_allowed.Given as goal

abbrev pub decreases-is_not_allowed : goal.decreases-is_not_allowed
decreases-is_not_allowed l = length l.path.now
