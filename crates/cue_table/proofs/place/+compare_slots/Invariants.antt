use Rattle.std.proofs.Common.{length}
use Rattle.cue_table.proofs.place.+compare_slots.Given as goal

abbrev pub decreases-compare_slots : goal.decreases-compare_slots
decreases-compare_slots l = length l.left.now
