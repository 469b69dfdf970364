use Rattle.std.proofs.Common.{◌++◌, ℕ, List, sym, subst}
use Rattle.cue_journal.specs.Frames.{file_head}
use Rattle.cue_journal.specs.Settled.{IsStaged}
use Rattle.cue_journal.proofs.Crash.{stage_crash, stage_ok}
use Rattle.cue_journal.proofs.journal.stage.Goals as goal

pub returns-in_err-write_at-clause-crash : goal.returns-in_err-write_at-clause-crash
returns-in_err-write_at-clause-crash g c = λ s k left. (stage_crash _ _ _ _ _ s c.write_at.ensures.crash k left).0

pub returns-in_err-write_at-clause-sound : goal.returns-in_err-write_at-clause-sound
returns-in_err-write_at-clause-sound g c = λ s k left. (stage_crash _ _ _ _ _ s c.write_at.ensures.crash k left).1

pub returns-in_err-sync-clause-crash : goal.returns-in_err-sync-clause-crash
returns-in_err-sync-clause-crash g c = λ s k left. (stage_crash _ _ _ _ _ s c.write_at.ensures.crash k (c.sync.ensures.crash k left)).0

pub returns-in_err-sync-clause-sound : goal.returns-in_err-sync-clause-sound
returns-in_err-sync-clause-sound g c = λ s k left. (stage_crash _ _ _ _ _ s c.write_at.ensures.crash k (c.sync.ensures.crash k left)).1

pub returns-clause-crash : goal.returns-clause-crash
returns-clause-crash g c = λ s k left. (stage_crash _ _ _ _ _ s c.write_at.ensures.crash k (c.sync.ensures.crash k left)).0

pub returns-clause-sound : goal.returns-clause-sound
returns-clause-sound g c = λ s k left. (stage_crash _ _ _ _ _ s c.write_at.ensures.crash k (c.sync.ensures.crash k left)).1

pub returns-clause-ok : goal.returns-clause-ok
returns-clause-ok g c = λ s.
    subst (λ (f : List ℕ). IsStaged f (g.D.Disk.may_leave c.sync.new.self) c.args.end (file_head ++ s.ends.frames) c.args.bytes.now) (sym c.sync.ensures.seen)
    (stage_ok (g.D.Disk.seen c.args.disk.now) (g.D.Disk.seen c.write_at.new.self) (g.D.Disk.may_leave c.args.disk.now) (g.D.Disk.may_leave c.sync.new.self) c.args.end c.args.bytes.now s c.write_at.ensures.others (c.in_ok-write_at.ensures.written c.requires.some) c.in_ok-sync.ensures.durable)
