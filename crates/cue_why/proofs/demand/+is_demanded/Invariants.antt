use Rattle.std.proofs.Common.{length}
use Rattle.cue_why.proofs.demand.+is_demanded.Given as goal

abbrev pub decreases-is_demanded : goal.decreases-is_demanded
decreases-is_demanded l = length l.path.now
