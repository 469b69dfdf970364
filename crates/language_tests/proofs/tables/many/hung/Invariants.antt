use Rattle.std.proofs.Common.{◌<◌, All}
use Rattle.cue_lattice.specs.Limits.{step_limit}
use Rattle.cue_table.specs.Depth.{tree_depth}
use Rattle.language_tests.proofs.tables.many.hung.Given as goal

abbrev pub invariant-loop-given : goal.invariant-loop-given
invariant-loop-given g l = All (λ one. tree_depth one.1 < step_limit) l.tables.items
