use Rattle.std.proofs.Common.{◌++◌, ℕ, List, sym, ap, ◌∙◌, append_assoc}
use Rattle.cue_journal.specs.Blocks.{recovered_pieces}
use Rattle.cue_journal.specs.Batches.{batch_bytes}
use Rattle.cue_journal.specs.Journals.{disk_of}
use Rattle.cue_journal.proofs.Found.{on_ok_more}
use Rattle.cue_journal.specs.Frames.{file_entries}
use Rattle.cue_journal.proofs.Pairs.{commit_left}
use Rattle.cue_journal.proofs.Files.{settled_sound, entries_left}
use Rattle.cue_journal.proofs.pair.JournalPair.commit.Goals as goal

pub returns-clause-crash : goal.returns-clause-crash
returns-clause-crash g c = λ ready b left may.
    commit_left _ _ _ left may.0 may.1 (entries_left _ _ _ ready.spare.settled may.0 may.2) (c.commit.ensures.crash ready.growing b may.1 may.3) may.4

pub returns-clause-sound : goal.returns-clause-sound
returns-clause-sound g c = λ ready. (settled_sound _ _ _ ready.spare.settled, c.commit.ensures.sound ready.growing)

pub returns-clause-acknowledged : goal.returns-clause-acknowledged
returns-clause-acknowledged g c = on_ok_more c.commit.result c.commit.ensures.acknowledged (λ done ready b.
    let spare = file_entries (g.D.Disk.seen (disk_of c.args.self.now.spare)) in
    let grown = file_entries (g.D.Disk.seen (disk_of c.args.self.now.growing)) in
    let d = done ready.growing b in
    (record { growing = d.0; spare = ready.spare }, ap (λ (l : List (List ℕ)). spare ++ l) d.1 ∙ sym (append_assoc spare grown (recovered_pieces (batch_bytes c.args.batch.now)))))
