use Rattle.std.proofs.Common.{◌≡◌, replicate}
use Rattle.cue_table.specs.Tree.{empty}
use Rattle.cue_replica.proofs.history.new_sites.Given as goal

abbrev pub invariant-loop : goal.invariant-loop
invariant-loop l = l.replicas.items ≡ replicate l.counter empty
