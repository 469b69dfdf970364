use Rattle.std.proofs.Common.{length, map}
use Rattle.cue_journal.proofs.Found.{IsLooking}
use Rattle.cue_journal.proofs.inspection.scattered_entries.Given as goal

abbrev pub invariant-loop-next : goal.invariant-loop-next
invariant-loop-next l = IsLooking l.bytes l.rest (map (λ v. v.items) l.entries.items)

abbrev pub decreases-loop-next : goal.decreases-loop-next
decreases-loop-next l = length l.rest
