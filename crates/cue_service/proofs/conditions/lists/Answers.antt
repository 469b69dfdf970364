use Rattle.std.proofs.Common.{arith}
use Rattle.cue_service.proofs.Elements.{none_so_far, none_at_all}
use Rattle.cue_service.proofs.conditions.lists.Goals as goal

pub loop-at-preserved : goal.loop-at-preserved
loop-at-preserved c = none_so_far _ c.args.field.now c.loop-at.at c.lists_at.result c.if-lists_at.false c.lists_at.ensures c.loop-at.invariant

pub returns : goal.returns
returns c = none_at_all _ c.args.field.now c.loop-at.at (omega arith) c.loop-at.invariant
