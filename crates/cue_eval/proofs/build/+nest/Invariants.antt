use Rattle.std.proofs.Common.{length}
use Rattle.cue_eval.proofs.build.+nest.Given as goal

abbrev pub decreases-nest : goal.decreases-nest
decreases-nest l = length l.chain.now
