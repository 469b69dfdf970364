use Rattle.std.proofs.Common.{◌≡◌, ℕ, List, sym, subst}
use Rattle.cue_journal.specs.Frames.{file_entries}
use Rattle.cue_journal.specs.Settled.{IsJournalSettled}
use Rattle.cue_journal.proofs.Crash.{stage_crash, filled, cut_off, cut_crash}
use Rattle.cue_journal.proofs.journal.fill.Goals as goal

pub returns-in_err-sync-in-Ok-clause-crash : goal.returns-in_err-sync-in-Ok-clause-crash
returns-in_err-sync-in-Ok-clause-crash g c = λ s k left. (stage_crash _ _ _ _ _ s c.write_at.ensures.crash k (c.sync.ensures.crash k left)).0

pub returns-in_err-sync-in-Ok-clause-sound : goal.returns-in_err-sync-in-Ok-clause-sound
returns-in_err-sync-in-Ok-clause-sound g c = λ s k left. (stage_crash _ _ _ _ _ s c.write_at.ensures.crash k (c.sync.ensures.crash k left)).1

pub returns-in_err-sync-in-Err-clause-crash : goal.returns-in_err-sync-in-Err-clause-crash
returns-in_err-sync-in-Err-clause-crash g c = λ s k left. (cut_crash _ _ _ _ _ _ s c.write_at.ensures.crash c.set_len-cut.ensures.crash k (c.sync-in-Err.ensures.crash k left)).0

pub returns-in_err-sync-in-Err-clause-sound : goal.returns-in_err-sync-in-Err-clause-sound
returns-in_err-sync-in-Err-clause-sound g c = λ s k left. (cut_crash _ _ _ _ _ _ s c.write_at.ensures.crash c.set_len-cut.ensures.crash k (c.sync-in-Err.ensures.crash k left)).1

pub returns-in_ok-sync-in-Ok-clause-crash : goal.returns-in_ok-sync-in-Ok-clause-crash
returns-in_ok-sync-in-Ok-clause-crash g c = λ s k left. (stage_crash _ _ _ _ _ s c.write_at.ensures.crash k (c.sync.ensures.crash k left)).0

pub returns-in_ok-sync-in-Ok-clause-sound : goal.returns-in_ok-sync-in-Ok-clause-sound
returns-in_ok-sync-in-Ok-clause-sound g c = λ s k left. (stage_crash _ _ _ _ _ s c.write_at.ensures.crash k (c.sync.ensures.crash k left)).1

pub returns-in_ok-sync-in-Ok-clause-ok : goal.returns-in_ok-sync-in-Ok-clause-ok
returns-in_ok-sync-in-Ok-clause-ok g c = λ s.
    subst (λ (f : List ℕ). IsJournalSettled f (g.D.Disk.may_leave c.sync.new.self) c.args.end × (file_entries f ≡ file_entries (g.D.Disk.seen c.args.disk.now))) (sym c.sync.ensures.seen)
    (filled (g.D.Disk.seen c.args.disk.now) (g.D.Disk.seen c.write_at.new.self) (g.D.Disk.may_leave c.args.disk.now) (g.D.Disk.may_leave c.sync.new.self) c.args.end _ s c.write_at.ensures.others c.in_ok-sync-in-Ok.ensures.durable)

pub returns-in_ok-sync-in-Err-clause-crash : goal.returns-in_ok-sync-in-Err-clause-crash
returns-in_ok-sync-in-Err-clause-crash g c = λ s k left. (cut_crash _ _ _ _ _ _ s c.write_at.ensures.crash c.set_len-cut.ensures.crash k (c.sync-in-Err.ensures.crash k left)).0

pub returns-in_ok-sync-in-Err-clause-sound : goal.returns-in_ok-sync-in-Err-clause-sound
returns-in_ok-sync-in-Err-clause-sound g c = λ s k left. (cut_crash _ _ _ _ _ _ s c.write_at.ensures.crash c.set_len-cut.ensures.crash k (c.sync-in-Err.ensures.crash k left)).1

pub returns-in_ok-sync-in-Err-clause-ok : goal.returns-in_ok-sync-in-Err-clause-ok
returns-in_ok-sync-in-Err-clause-ok g c = λ s.
    subst (λ (f : List ℕ). IsJournalSettled f (g.D.Disk.may_leave c.sync-in-Err.new.self) c.args.end × (file_entries f ≡ file_entries (g.D.Disk.seen c.args.disk.now))) (sym c.sync-in-Err.ensures.seen)
    (cut_off (g.D.Disk.seen c.args.disk.now) (g.D.Disk.seen c.write_at.new.self) (g.D.Disk.seen c.set_len-cut.new.self) (g.D.Disk.may_leave c.args.disk.now) (g.D.Disk.may_leave c.sync-in-Err.new.self) c.args.end _ s c.write_at.ensures.others c.set_len-cut.ensures.others c.in_ok-sync-in-Err.ensures.durable)
