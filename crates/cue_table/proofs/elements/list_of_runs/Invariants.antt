use Rattle.std.proofs.Common.{◌≡◌, drop}
use Rattle.cue_table.specs.Inner.Join.{join_children}
use Rattle.cue_table.specs.Inner.View.{branches, run_branches}
use Rattle.cue_table.proofs.elements.list_of_runs.Given as goal

-- the branches that are put, and the runs that are left
abbrev pub invariant-loop-run : goal.invariant-loop-run
invariant-loop-run g l = join_children (branches l.children.items) (run_branches (drop l.run-index l.runs)) ≡ run_branches l.runs
