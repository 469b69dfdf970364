use Rattle.std.proofs.Common.{length}
use Rattle.cue_places.proofs.declared.+is_declared.Given as goal

abbrev pub decreases-is_declared : goal.decreases-is_declared
decreases-is_declared l = length l.steps.now
