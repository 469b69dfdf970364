use Rattle.std.proofs.Common.{◌≡◌, ◌∙◌, IsTrue, List, ℕ, [], subst, sym, refl, arith}
use Rattle.cue_journal.specs.Frames.{file_head, file_entries}
use Rattle.cue_journal.specs.Settled.{IsJournalSettled}
use Rattle.cue_journal.proofs.Files.{created}
use Rattle.cue_journal.proofs.journal.create.Goals as goal

pub returns-clause-ok : goal.returns-clause-ok
unfolding file_head
returns-clause-ok g c = λ clean.
    subst (λ (f : List ℕ). IsJournalSettled f (g.D.Disk.may_leave c.sync.new.self) 19 × (file_entries f ≡ [])) (sym c.sync.ensures.seen)
    (created (g.D.Disk.seen c.args.disk.now) (g.D.Disk.seen c.write_at.new.self) _ (g.D.Disk.may_leave c.sync.new.self) (c.requires.short (subst IsTrue (c.sync.ensures.calm ∙ c.write_at.ensures.calm) clean)) c.write_at.ensures.others (c.in_ok-write_at.ensures.written (omega arith)) c.in_ok-sync.ensures.durable refl)
