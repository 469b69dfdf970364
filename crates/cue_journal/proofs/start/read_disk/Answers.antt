use Rattle.cue_journal.proofs.start.read_disk.Goals as goal

pub returns-in-Ok : goal.returns-in-Ok
returns-in-Ok g c = λ clean. let done = c.in-Ok.ensures.entries clean in record { read = done.0; settled = done.1; same = done.2 }
