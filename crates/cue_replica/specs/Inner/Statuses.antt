-- The status of a report with lines.
use Rattle.std.specs.Prelude.{Bool, true, false}
use Rattle.cue_replica.specs.declared.question.Status.{Status}
use Rattle.cue_replica.specs.declared.question.Status.TheVariants as statuses

-- by whether it has lines of conflicts and whether it has lines of gaps
abbrev pub lines_status : Bool → Bool → Status
lines_status true lacking = statuses.Conflicts
lines_status false true = statuses.Incomplete
lines_status false false = statuses.Done
