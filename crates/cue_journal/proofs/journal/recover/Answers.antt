use Rattle.std.proofs.Common.{◌≡◌, ◌≤◌, ℕ, List, length, map, IsTrue, sym, subst, ap, ◌∙◌, arith}
use Rattle.sqlite_disk.specs.Disk.{Only}
use Rattle.cue_journal.specs.Frames.{file_entries}
use Rattle.cue_journal.specs.Settled.{EndsAt}
use Rattle.cue_journal.proofs.Files.{short_file, short_crash, on_disk}
use Rattle.cue_journal.proofs.journal.recover.Goals as goal

pub returns-in_err-create-clause-crash : goal.returns-in_err-create-clause-crash
returns-in_err-create-clause-crash g c = λ clean only k left.
    let bytes = c.in_ok-bytes.ensures.bytes (subst IsTrue c.create.ensures.clean clean) in
    let short : length (g.D.Disk.seen c.args.disk.now) ≤ 20 = omega (arith, ap length bytes, c.if-len.true, c.len.ensures, c.in_ok-bytes.bytes.ok.0) in
    short_crash k (g.D.Disk.seen c.args.disk.now) (c.create.ensures.crash (λ j l. only j (c.read_all.ensures.crash j l) ∙ sym c.read_all.ensures.seen) clean k left) short

pub returns-then-len-clause-crash : goal.returns-then-len-clause-crash
returns-then-len-clause-crash g c = λ clean only k left.
    let bytes = c.in_ok-bytes.ensures.bytes (subst IsTrue c.create.ensures.clean clean) in
    let short : length (g.D.Disk.seen c.args.disk.now) ≤ 20 = omega (arith, ap length bytes, c.if-len.true, c.len.ensures, c.in_ok-bytes.bytes.ok.0) in
    short_crash k (g.D.Disk.seen c.args.disk.now) (c.create.ensures.crash (λ j l. only j (c.read_all.ensures.crash j l) ∙ sym c.read_all.ensures.seen) clean k left) short

pub returns-then-len-clause-entries : goal.returns-then-len-clause-entries
returns-then-len-clause-entries g c = λ clean.
    let bytes = c.in_ok-bytes.ensures.bytes (subst IsTrue c.create.ensures.clean clean) in
    let short : length (g.D.Disk.seen c.args.disk.now) ≤ 20 = omega (arith, ap length bytes, c.if-len.true, c.len.ensures, c.in_ok-bytes.bytes.ok.0) in
    let done = c.in_ok-create.ensures.ok clean in
    let none = sym (short_file (g.D.Disk.seen c.args.disk.now) short) in
    (ap (map (λ v. v.items)) c.new.ensures.items ∙ none, done.0, done.1 ∙ none)

pub returns-clause-entries : goal.returns-clause-entries
returns-clause-entries g c = λ clean.
    let is : c.deref.result.now ≡ g.D.Disk.seen c.args.disk.now = c.deref.ensures.value ∙ c.in_ok-bytes.ensures.bytes (c.sync.ensures.clean clean) in
    let same : g.D.Disk.seen c.sync.new.self ≡ g.D.Disk.seen c.args.disk.now = c.sync.ensures.seen ∙ c.read_all.ensures.seen in
    let only = subst (λ (f : List ℕ). Only f (g.D.Disk.may_leave c.sync.new.self)) (sym c.sync.ensures.seen) c.in_ok-sync.ensures.durable in (
      c.in_ok-found.ensures.entries ∙ ap file_entries is,
      on_disk (g.D.Disk.seen c.sync.new.self) (g.D.Disk.may_leave c.sync.new.self) c.in_ok-found.found.0 (subst (λ (f : List ℕ). EndsAt f c.in_ok-found.found.0) (is ∙ sym same) c.in_ok-found.ensures.end) only,
      ap file_entries same,
    )
