use Rattle.std.proofs.Common.{◌≡◌, ◌+◌, ◌≤◌, drop}
use Rattle.cue_table.specs.Inner.Changes.{total_added}
use Rattle.cue_table.proofs.fill.count_added.Given as goal

abbrev pub invariant-loop-change : goal.invariant-loop-change
invariant-loop-change g l = (l.added + total_added (drop l.change-index l.changes) ≡ total_added l.changes) × (l.added ≤ l.change-index)
