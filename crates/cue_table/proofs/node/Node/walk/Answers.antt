use Rattle.cue_table.specs.Form.{IsRowKept}
use Rattle.cue_table.proofs.Finding.{tree_rises, walk_on}
use Rattle.cue_table.proofs.node.Node.walk.Goals as goal

pub step_into-requires : goal.step_into-requires
step_into-requires g c = tree_rises (IsRowKept g.R.Narrow.refuses g.R.Narrow.is_value) c.loop-step.node.now c.loop-step.invariant.form

pub loop-step-preserved : goal.loop-step-preserved
loop-step-preserved g c =
    let next = walk_on (IsRowKept g.R.Narrow.refuses g.R.Narrow.is_value) c.loop-step.node.now c.in_ok-node.node.now c.args.steps.now c.loop-step.step-index c.step-item.result _ c.loop-step.invariant.form c.loop-step-test.true c.step-item.is c.in_ok-node.ensures c.loop-step.invariant.rest in
    record { form = next.0; rest = next.1 }
