use Rattle.std.proofs.Common.{sym, subst}
use Rattle.cue_table.specs.Valid.{IsValidTable}
use Rattle.cue_table.proofs.ValidWalks.{empty_valid}
use Rattle.cue_replica.proofs.replica.Replica.new.Goals as goal

pub invariant_of-result : goal.invariant_of-result
invariant_of-result c = subst IsValidTable (sym c.new.ensures) empty_valid
