use Rattle.std.proofs.Common.{length}
use Rattle.cue_places.proofs.root.+root_at.Given as goal

abbrev pub decreases-root_at : goal.decreases-root_at
decreases-root_at l = length l.steps.now
