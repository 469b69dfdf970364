use Rattle.std.proofs.Common.{◌+◌, ◌++◌, ◌∷◌, ap, ◌∙◌, List, ℕ, arith, length}
use Rattle.cue_journal.proofs.Reading.{batch_more_first}
use Rattle.cue_journal.proofs.blocks.Batch.push.Goals as goal

pub returns-in-Ok-clause-ok : goal.returns-in-Ok-clause-ok
returns-in-Ok-clause-ok c = λ batch.
    batch_more_first _ _ (length c.args.rest.now + 1) c.args.first c.args.rest.now (omega arith) batch (omega arith)
    (c.in-Ok.ensures.ok ∙ ap (λ (l : List ℕ). c.args.self.now.bytes.items ++ 1 ∷ (l ++ c.args.first ∷ c.args.rest.now)) c.to_be_bytes-head.ensures)

pub returns-in-Ok-clause-appends : goal.returns-in-Ok-clause-appends
returns-in-Ok-clause-appends c = (_, c.in-Ok.ensures.ok)
