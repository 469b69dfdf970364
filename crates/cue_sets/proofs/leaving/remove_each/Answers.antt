use Rattle.std.proofs.Common.{◌+◌, arith}
use Rattle.cue_sets.proofs.Removed.{one_more_leaves}
use Rattle.cue_sets.proofs.leaving.remove_each.Goals as goal

pub loop-text-preserved : goal.loop-text-preserved
loop-text-preserved c = (
  c.remove.ensures.ascending,
  one_more_leaves c.args.texts.now.items c.loop-text.texts.items c.remove.new.texts.items c.args.gone.now c.loop-text.text-index (c.loop-text.text-index + 1) c.text-item.result (omega arith) c.loop-text-test.true c.text-item.is c.loop-text.invariant.1 c.remove.ensures.listed,
)
