use Rattle.std.proofs.Common.{length}
use Rattle.cue_eval.proofs.labels.+collect_labels.Given as goal

abbrev pub decreases-collect_labels : goal.decreases-collect_labels
decreases-collect_labels l = length l.declarations.now
