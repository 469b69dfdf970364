use Rattle.std.proofs.Common.{◌≡◌, ℕ, List, [], sym, subst, arith}
use Rattle.cue_journal.specs.Frames.{file_entries}
use Rattle.cue_journal.specs.Settled.{IsJournalSettled}
use Rattle.cue_journal.proofs.Clearing.{clear_crash, clear_ok}
use Rattle.cue_journal.proofs.journal.close_first.Goals as goal

pub returns-in_err-write_at-clause-crash : goal.returns-in_err-write_at-clause-crash
returns-in_err-write_at-clause-crash g c = λ end s some k left. (clear_crash _ _ _ end s some c.write_at.ensures.crash k left).0

pub returns-in_err-write_at-clause-sound : goal.returns-in_err-write_at-clause-sound
returns-in_err-write_at-clause-sound g c = λ end s some k left. (clear_crash _ _ _ end s some c.write_at.ensures.crash k left).1

pub returns-in_err-sync-clause-crash : goal.returns-in_err-sync-clause-crash
returns-in_err-sync-clause-crash g c = λ end s some k left. (clear_crash _ _ _ end s some c.write_at.ensures.crash k (c.sync.ensures.crash k left)).0

pub returns-in_err-sync-clause-sound : goal.returns-in_err-sync-clause-sound
returns-in_err-sync-clause-sound g c = λ end s some k left. (clear_crash _ _ _ end s some c.write_at.ensures.crash k (c.sync.ensures.crash k left)).1

pub returns-clause-crash : goal.returns-clause-crash
returns-clause-crash g c = λ end s some k left. (clear_crash _ _ _ end s some c.write_at.ensures.crash k (c.sync.ensures.crash k left)).0

pub returns-clause-sound : goal.returns-clause-sound
returns-clause-sound g c = λ end s some k left. (clear_crash _ _ _ end s some c.write_at.ensures.crash k (c.sync.ensures.crash k left)).1

pub returns-clause-ok : goal.returns-clause-ok
returns-clause-ok g c = λ end s some.
    subst (λ (f : List ℕ). IsJournalSettled f (g.D.Disk.may_leave c.sync.new.self) 19 × (file_entries f ≡ [])) (sym c.sync.ensures.seen)
    (clear_ok (g.D.Disk.seen c.args.disk.now) (g.D.Disk.seen c.write_at.new.self) (g.D.Disk.may_leave c.args.disk.now) (g.D.Disk.may_leave c.sync.new.self) end s some c.write_at.ensures.others (c.in_ok-write_at.ensures.written (omega arith)) c.in_ok-sync.ensures.durable)
