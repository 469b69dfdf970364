use Rattle.std.proofs.Common.{arith}
use Rattle.cue_net.proofs.Findings.{told_parts}
use Rattle.cue_net.proofs.told.answer_of_replies.Goals as goal

pub returns : goal.returns
returns c =
    told_parts c.args.replies.now c.in-Some.to_inputs.now c.in-Some.last.now c.deref.result.now c.args.inputs c.last_answer.result
    c.in-Some.ensures.cases.0 c.deref.ensures.value (omega (arith, c.if-to_inputs-inputs.false)) c.last_answer.ensures
