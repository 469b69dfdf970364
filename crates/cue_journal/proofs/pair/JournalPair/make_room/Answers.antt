use Rattle.std.proofs.Common.{◌++◌, ◌&&◌, ℕ, List, ap}
use Rattle.cue_journal.specs.Frames.{file_entries}
use Rattle.cue_journal.specs.Journals.{disk_of, is_journal_open}
use Rattle.cue_journal.proofs.pair.JournalPair.make_room.Goals as goal

pub returns-clause-same : goal.returns-clause-same
returns-clause-same g c = record {
  ready = λ ready. record { growing = (c.make_room.ensures.same ready.growing).0; spare = ready.spare };
  entries = λ ready. ap (λ (l : List (List ℕ)). file_entries (g.D.Disk.seen (disk_of c.args.self.now.spare)) ++ l) (c.make_room.ensures.same ready.growing).1;
  whole = ap (λ b. b && is_journal_open c.args.self.now.spare) c.make_room.ensures.open;
}
