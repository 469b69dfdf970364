use Rattle.std.proofs.Common.{◌∙◌}
use Rattle.cue_journal.proofs.journal.Journal.make_room.Goals as goal

pub returns-clause-same : goal.returns-clause-same
returns-clause-same g c = λ ready.
    let once = c.lengthen.ensures.same ready in
    let twice = c.lengthen-2.ensures.same once.0 in
    (twice.0, twice.1 ∙ once.1)
