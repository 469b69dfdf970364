use Rattle.std.proofs.Common.{length}
use Rattle.cue_places.proofs.bars.+first_bar.Given as goal

abbrev pub decreases-first_bar : goal.decreases-first_bar
decreases-first_bar l = length l.steps.now
