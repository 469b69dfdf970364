use Rattle.std.proofs.Common.{◌≡◌, take}
use Rattle.cue_table.proofs.node.+copy.Given as goal

abbrev pub invariant-copy_runs-loop-run : goal.invariant-copy_runs-loop-run
invariant-copy_runs-loop-run g l = l.copied.items ≡ take l.run-index l.runs
