use Rattle.std.proofs.Common.{ℕ, ◌+◌, ◌<◌, ◌^◌, List, ◌∷◌, ◌++◌, length, sym, subst, ap, ◌∙◌, inl, refl, arith}
use Rattle.cue_journal.specs.Frames.{file_head}
use Rattle.cue_journal.specs.Settled.{IsJournalSettled}
use Rattle.cue_journal.proofs.Crash.{gate_left, committed}
use Rattle.cue_journal.proofs.Files.{settled_sound, entries_left, length-sealed}
use Rattle.cue_journal.proofs.journal.Journal.write.Goals as goal

pub returns-in_err-stage-clause-crash : goal.returns-in_err-stage-clause-crash
returns-in_err-stage-clause-crash g c = λ ready b k left. inl (c.stage.ensures.crash ready.settled k left)

pub returns-in_err-stage-clause-sound : goal.returns-in_err-stage-clause-sound
returns-in_err-stage-clause-sound g c = λ ready. c.stage.ensures.sound ready.settled

pub returns-in_err-open_gate-clause-crash : goal.returns-in_err-open_gate-clause-crash
returns-in_err-open_gate-clause-crash g c = λ ready b k left.
    let s = ready.settled in
    let batch = c.args.batch.now.bytes.items in
    let staged = c.in_ok-stage.ensures.ok s in
    let there = c.open_gate.ensures.crash (file_head ++ s.ends.frames) c.deref.result.now staged k left in
    let fits : length batch < 2 ^ 64 = omega (arith, c.len.ensures, c.if-len-gt-MOST.false, c.args.batch.now.bytes.ok.0) in
    (gate_left (g.D.Disk.seen c.args.self.now.disk) k (g.D.Disk.may_leave c.args.self.now.disk) c.args.self.now.end batch staged.junk there.0 s fits
    (there.1 ∙ ap (λ (l : List ℕ). (file_head ++ s.ends.frames) ++ there.0 ∷ (l ++ staged.junk)) (c.deref.ensures.value ∙ c.in_ok-seal.ensures))).0

pub returns-in_err-open_gate-clause-sound : goal.returns-in_err-open_gate-clause-sound
returns-in_err-open_gate-clause-sound g c = λ ready k left.
    let s = ready.settled in
    let batch = c.args.batch.now.bytes.items in
    let staged = c.in_ok-stage.ensures.ok s in
    let there = c.open_gate.ensures.crash (file_head ++ s.ends.frames) c.deref.result.now staged k left in
    let fits : length batch < 2 ^ 64 = omega (arith, c.len.ensures, c.if-len-gt-MOST.false, c.args.batch.now.bytes.ok.0) in
    (gate_left (g.D.Disk.seen c.args.self.now.disk) k (g.D.Disk.may_leave c.args.self.now.disk) c.args.self.now.end batch staged.junk there.0 s fits
    (there.1 ∙ ap (λ (l : List ℕ). (file_head ++ s.ends.frames) ++ there.0 ∷ (l ++ staged.junk)) (c.deref.ensures.value ∙ c.in_ok-seal.ensures))).1

pub returns-clause-crash : goal.returns-clause-crash
returns-clause-crash g c = λ ready b k left.
    let s = ready.settled in
    let batch = c.args.batch.now.bytes.items in
    let staged = c.in_ok-stage.ensures.ok s in
    let there = c.open_gate.ensures.crash (file_head ++ s.ends.frames) c.deref.result.now staged k left in
    let fits : length batch < 2 ^ 64 = omega (arith, c.len.ensures, c.if-len-gt-MOST.false, c.args.batch.now.bytes.ok.0) in
    (gate_left (g.D.Disk.seen c.args.self.now.disk) k (g.D.Disk.may_leave c.args.self.now.disk) c.args.self.now.end batch staged.junk there.0 s fits
    (there.1 ∙ ap (λ (l : List ℕ). (file_head ++ s.ends.frames) ++ there.0 ∷ (l ++ staged.junk)) (c.deref.ensures.value ∙ c.in_ok-seal.ensures))).0

pub returns-clause-sound : goal.returns-clause-sound
returns-clause-sound g c = λ ready k left.
    let s = ready.settled in
    let batch = c.args.batch.now.bytes.items in
    let staged = c.in_ok-stage.ensures.ok s in
    let there = c.open_gate.ensures.crash (file_head ++ s.ends.frames) c.deref.result.now staged k left in
    let fits : length batch < 2 ^ 64 = omega (arith, c.len.ensures, c.if-len-gt-MOST.false, c.args.batch.now.bytes.ok.0) in
    (gate_left (g.D.Disk.seen c.args.self.now.disk) k (g.D.Disk.may_leave c.args.self.now.disk) c.args.self.now.end batch staged.junk there.0 s fits
    (there.1 ∙ ap (λ (l : List ℕ). (file_head ++ s.ends.frames) ++ there.0 ∷ (l ++ staged.junk)) (c.deref.ensures.value ∙ c.in_ok-seal.ensures))).1

pub returns-clause-acknowledged : goal.returns-clause-acknowledged
returns-clause-acknowledged g c = λ ready b.
    let s = ready.settled in
    let batch = c.args.batch.now.bytes.items in
    let staged = c.in_ok-stage.ensures.ok s in
    let done = c.in_ok-open_gate.ensures.ok (file_head ++ s.ends.frames) c.deref.result.now staged in
    let fits : length batch < 2 ^ 64 = omega (arith, c.len.ensures, c.if-len-gt-MOST.false, c.args.batch.now.bytes.ok.0) in
    let all = committed (g.D.Disk.seen c.args.self.now.disk) (g.D.Disk.seen c.open_gate.new.disk) (g.D.Disk.may_leave c.args.self.now.disk) (g.D.Disk.may_leave c.open_gate.new.disk) batch staged.junk c.args.self.now.end s fits
    (done.0 ∙ ap (λ (l : List ℕ). (file_head ++ s.ends.frames) ++ 255 ∷ (l ++ staged.junk)) (c.deref.ensures.value ∙ c.in_ok-seal.ensures)) done.1 in (
      record {
        settled = subst (IsJournalSettled (g.D.Disk.seen c.open_gate.new.disk) (g.D.Disk.may_leave c.open_gate.new.disk)) (ap (λ n. c.args.self.now.end + (n + 17)) (sym (c.len-size.ensures ∙ c.args.batch.now.bytes.ok.0))) all.0;
        open_still = refl;
      },
      all.1,
    )

pub returns-then-not-was_open-clause-sound : goal.returns-then-not-was_open-clause-sound
returns-then-not-was_open-clause-sound g c = λ ready. settled_sound _ _ _ ready.settled

pub returns-then-is_empty-clause-sound : goal.returns-then-is_empty-clause-sound
returns-then-is_empty-clause-sound g c = λ ready. settled_sound _ _ _ ready.settled

pub returns-in_err-seal-clause-sound : goal.returns-in_err-seal-clause-sound
returns-in_err-seal-clause-sound g c = λ ready. settled_sound _ _ _ ready.settled

pub stage-requires-clause-some : goal.stage-requires-clause-some
stage-requires-clause-some g c = omega (arith, ap length (c.deref.ensures.value ∙ c.in_ok-seal.ensures), length-sealed c.args.batch.now.bytes.items)

pub returns-then-not-was_open-clause-crash : goal.returns-then-not-was_open-clause-crash
returns-then-not-was_open-clause-crash g c = λ ready b k left. inl (entries_left _ _ _ ready.settled k left)

pub returns-then-is_empty-clause-crash : goal.returns-then-is_empty-clause-crash
returns-then-is_empty-clause-crash g c = λ ready b k left. inl (entries_left _ _ _ ready.settled k left)

pub returns-in_err-seal-clause-crash : goal.returns-in_err-seal-clause-crash
returns-in_err-seal-clause-crash g c = λ ready b k left. inl (entries_left _ _ _ ready.settled k left)
