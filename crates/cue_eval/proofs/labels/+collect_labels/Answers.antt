use Rattle.cue_eval.proofs.LabelLists.{declared_result}
use Rattle.cue_eval.proofs.labels.+collect_labels.Goals as goal

pub returns : goal.returns
returns t c =
    declared_result c.union.result c.args.declarations.now c.split_at.result.0.now c.split_at.result.1.now _ c.in_ok-left.left c.in_ok-right.right c.split_at.ensures.front c.split_at.ensures.back
    c.in_ok-left.ensures c.in_ok-right.ensures c.union.ensures
