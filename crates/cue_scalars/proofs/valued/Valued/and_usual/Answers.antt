use Rattle.cue_scalars.proofs.Conjunctions.{are_met, met_within, both_brought}
use Rattle.cue_scalars.proofs.valued.Valued.and_usual.Goals as goal

pub invariant_of-result : goal.invariant_of-result
invariant_of-result c =
    let met = are_met c.args.self c.args.other c.in_ok-value.value c.in_ok-usual.usual c.in_ok-left.left c.in_ok-left.left_usual c.in_ok-right.right c.in_ok-right.right_usual c.in_ok-left.ensures.value c.in_ok-left.ensures.usual c.in_ok-right.ensures.value c.in_ok-right.ensures.usual c.in_ok-value.ensures c.in_ok-usual.ensures in
    record { within = met_within c.args.self c.args.other c.in_ok-value.value c.in_ok-usual.usual met }

pub returns : goal.returns
returns c =
    let met = are_met c.args.self c.args.other c.in_ok-value.value c.in_ok-usual.usual c.in_ok-left.left c.in_ok-left.left_usual c.in_ok-right.right c.in_ok-right.right_usual c.in_ok-left.ensures.value c.in_ok-left.ensures.usual c.in_ok-right.ensures.value c.in_ok-right.ensures.usual c.in_ok-value.ensures c.in_ok-usual.ensures in
    both_brought c.args.self c.args.other c.in_ok-value.value c.in_ok-usual.usual met c.requires
