use Rattle.cue_journal.proofs.journal.Journal.lengthen.Goals as goal

pub returns-in-Enough-clause-same : goal.returns-in-Enough-clause-same
returns-in-Enough-clause-same g c = λ ready. let done = c.extend.ensures.same ready.settled in (record { settled = done.0; open_still = ready.open_still }, done.1)

pub returns-in_default-clause-same : goal.returns-in_default-clause-same
returns-in_default-clause-same g c = λ ready. let done = c.extend.ensures.same ready.settled in (record { settled = done.0; open_still = ready.open_still }, done.1)
