use Rattle.std.proofs.Common.{ℕ, List, sym, subst, ◌∙◌, arith}
use Rattle.sqlite_disk.specs.Disk.{Only}
use Rattle.cue_journal.proofs.Crash.{gate_crash, gate_ok}
use Rattle.cue_journal.proofs.journal.open_gate.Goals as goal

pub returns-in_err-write_at-clause-crash : goal.returns-in_err-write_at-clause-crash
returns-in_err-write_at-clause-crash g c = λ front bytes s k left. gate_crash _ _ _ _ front bytes s c.write_at.ensures.crash k left

pub returns-in_err-sync-clause-crash : goal.returns-in_err-sync-clause-crash
returns-in_err-sync-clause-crash g c = λ front bytes s k left. gate_crash _ _ _ _ front bytes s c.write_at.ensures.crash k (c.sync.ensures.crash k left)

pub returns-clause-crash : goal.returns-clause-crash
returns-clause-crash g c = λ front bytes s k left. gate_crash _ _ _ _ front bytes s c.write_at.ensures.crash k (c.sync.ensures.crash k left)

pub returns-clause-ok : goal.returns-clause-ok
returns-clause-ok g c = λ front bytes s. (
  c.sync.ensures.seen ∙ gate_ok (g.D.Disk.seen c.args.disk.now) (g.D.Disk.seen c.write_at.new.self) (g.D.Disk.may_leave c.args.disk.now) c.args.end front bytes s c.write_at.ensures.others (c.in_ok-write_at.ensures.written (omega arith)),
  subst (λ (f : List ℕ). Only f (g.D.Disk.may_leave c.sync.new.self)) (sym c.sync.ensures.seen) c.in_ok-sync.ensures.durable,
)
