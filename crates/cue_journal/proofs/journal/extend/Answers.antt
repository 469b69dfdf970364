use Rattle.std.proofs.Common.{◌+◌, ◌∙◌, arith}
use Rattle.cue_journal.proofs.Crash.{left_behind, left_cut}
use Rattle.cue_journal.proofs.journal.extend.Goals as goal

pub returns-in-Ok-clause-same : goal.returns-in-Ok-clause-same
returns-in-Ok-clause-same g c = λ s. left_behind _ _ _ _ _ _ s c.write_at.ensures.others c.write_at.ensures.crash

pub returns-in-Err-clause-same : goal.returns-in-Err-clause-same
returns-in-Err-clause-same g c = λ s.
    let mid = left_behind _ _ _ _ _ _ s c.write_at.ensures.others c.write_at.ensures.crash in
    let done = left_cut _ _ _ _ c.args.end (c.args.end + 1 + c.args.had) mid.0 (omega arith) c.set_len-cut.ensures.others c.set_len-cut.ensures.crash in
    (done.0, done.1 ∙ mid.1)
