use Rattle.cue_table.proofs.table.Table.meet.Goals as goal

pub returns-clause-refused : goal.returns-clause-refused
returns-clause-refused g c = rw (← c.in_ok-met.ensures, ← c.in_ok-copy.ensures) c.in_ok-meet_with.ensures.ok
