use Rattle.std.proofs.Common.{arith}
use Rattle.cue_table.proofs.Copying.{onward_falls}
use Rattle.cue_table.proofs.node.+copy.Goals as goal

pub copy_rest-copy_runs-requires : goal.copy_rest-copy_runs-requires
copy_rest-copy_runs-requires g t c κs within =
    (rw (c.deref-in-Some.ensures.value, c.deref.ensures) (omega (arith, onward_falls g.R.Narrow c.in-Some.onward.value, rw c.in-Some.is at c.decreases)), (within.0, within.1))
