use Rattle.std.proofs.Common.{length}
use Rattle.cue_eval.proofs.declares.+wrap_in_chain.Given as goal

abbrev pub decreases-wrap_in_chain : goal.decreases-wrap_in_chain
decreases-wrap_in_chain l = length l.chain.now
