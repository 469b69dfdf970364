use Rattle.std.proofs.Common.{◌++◌, List, ℕ, sym, ap, subst, ◌∙◌, inl}
use Rattle.cue_journal.specs.Blocks.{recovered_pieces}
use Rattle.cue_journal.specs.Frames.{file_entries}
use Rattle.cue_journal.specs.Batches.{batch_bytes}
use Rattle.cue_journal.specs.Journals.{disk_of, IsJournalReady}
use Rattle.cue_journal.specs.Settled.{IsBeforeOrAfter}
use Rattle.cue_journal.proofs.Pairs.{copied_left, cleared_left, swapped_left}
use Rattle.cue_journal.proofs.Files.{settled_sound, entries_left}
use Rattle.cue_journal.proofs.pair.JournalPair.condense.Goals as goal

pub returns-in-Ok-clause-crash : goal.returns-in-Ok-clause-crash
returns-in-Ok-clause-crash g c = λ ready b left may.
    copied_left _ _ _ left may.0 may.1 (inl (c.reserve.ensures.crash ready.spare may.0 may.2)) (entries_left _ _ _ ready.growing.settled may.1 may.3) may.4

pub returns-in-Err-clause-crash : goal.returns-in-Err-clause-crash
returns-in-Err-clause-crash g c = λ ready b left may.
    copied_left _ _ _ left may.0 may.1 (inl (c.reserve.ensures.crash ready.spare may.0 may.2)) (entries_left _ _ _ ready.growing.settled may.1 may.3) may.4

pub returns-in_err-commit-clause-crash : goal.returns-in_err-commit-clause-crash
returns-in_err-commit-clause-crash g c = λ ready b left may.
    let there = c.in-Ok-Enough.ensures.same ready.spare in
    let spare = subst (λ (l : List (List ℕ)). IsBeforeOrAfter l (recovered_pieces (batch_bytes c.args.batch.now)) may.0) there.1 (c.commit.ensures.crash there.0 b may.0 may.2) in
    copied_left _ _ _ left may.0 may.1 spare (entries_left _ _ _ ready.growing.settled may.1 may.3) may.4

pub returns-in_err-clear-clause-crash : goal.returns-in_err-clear-clause-crash
returns-in_err-clear-clause-crash g c = λ ready b left may.
    let there = c.in-Ok-Enough.ensures.same ready.spare in
    let done = c.in_ok-commit.ensures.acknowledged there.0 b in
    let all = done.1 ∙ ap (λ (l : List (List ℕ)). l ++ recovered_pieces (batch_bytes c.args.batch.now)) there.1 in
    cleared_left _ _ _ left may.0 may.1 (entries_left _ _ _ done.0.settled may.0 may.2 ∙ all) (c.clear-2.ensures.crash ready.growing may.1 may.3) may.4

pub returns-clause-crash : goal.returns-clause-crash
returns-clause-crash g c = λ ready b left may.
    let there = c.in-Ok-Enough.ensures.same ready.spare in
    let done = c.in_ok-commit.ensures.acknowledged there.0 b in
    let all = done.1 ∙ ap (λ (l : List (List ℕ)). l ++ recovered_pieces (batch_bytes c.args.batch.now)) there.1 in
    let none = c.in_ok-clear.ensures.cleared ready.growing in
    let first = subst (λ j. g.D.Disk.may_leave (disk_of j) may.0) c.swap.ensures.y_after may.2 in
    let second = subst (λ j. g.D.Disk.may_leave (disk_of j) may.1) c.swap.ensures.x_after may.3 in
    swapped_left (file_entries (g.D.Disk.seen (disk_of c.args.self.now.spare))) (file_entries (g.D.Disk.seen (disk_of c.args.self.now.growing))) (recovered_pieces (batch_bytes c.args.batch.now)) left may.0 may.1 (entries_left _ _ _ none.0.settled may.0 first ∙ none.1) (entries_left _ _ _ done.0.settled may.1 second ∙ all) may.4

pub returns-in-Ok-clause-sound : goal.returns-in-Ok-clause-sound
returns-in-Ok-clause-sound g c = λ ready. (c.reserve.ensures.sound ready.spare, settled_sound _ _ _ ready.growing.settled)

pub returns-in-Err-clause-sound : goal.returns-in-Err-clause-sound
returns-in-Err-clause-sound g c = λ ready. (c.reserve.ensures.sound ready.spare, settled_sound _ _ _ ready.growing.settled)

pub returns-in_err-commit-clause-sound : goal.returns-in_err-commit-clause-sound
returns-in_err-commit-clause-sound g c = λ ready. (c.commit.ensures.sound (c.in-Ok-Enough.ensures.same ready.spare).0, settled_sound _ _ _ ready.growing.settled)

pub returns-in_err-clear-clause-sound : goal.returns-in_err-clear-clause-sound
returns-in_err-clear-clause-sound g c = λ ready. (c.commit.ensures.sound (c.in-Ok-Enough.ensures.same ready.spare).0, c.clear-2.ensures.sound ready.growing)

pub returns-in-Ok-clause-kept : goal.returns-in-Ok-clause-kept
returns-in-Ok-clause-kept g c = λ none ready.
    let done = c.in-Ok.ensures.same ready.spare in
    (record { growing = ready.growing; spare = done.0 }, ap (λ (l : List (List ℕ)). l ++ file_entries (g.D.Disk.seen (disk_of c.args.self.now.growing))) done.1)

pub returns-clause-condensed : goal.returns-clause-condensed
returns-clause-condensed g c = λ enough ready b.
    let there = c.in-Ok-Enough.ensures.same ready.spare in
    let done = c.in_ok-commit.ensures.acknowledged there.0 b in
    let none = c.in_ok-clear.ensures.cleared ready.growing in
    let spare = ap (λ j. file_entries (g.D.Disk.seen (disk_of j))) c.swap.ensures.y_after ∙ none.1 in
    let growing = ap (λ j. file_entries (g.D.Disk.seen (disk_of j))) c.swap.ensures.x_after ∙ done.1 ∙ ap (λ (l : List (List ℕ)). l ++ recovered_pieces (batch_bytes c.args.batch.now)) there.1 in (
      record {
        growing = subst (IsJournalReady g.D.Disk.seen g.D.Disk.may_leave) (sym c.swap.ensures.x_after) done.0;
        spare = subst (IsJournalReady g.D.Disk.seen g.D.Disk.may_leave) (sym c.swap.ensures.y_after) none.0;
      },
      ap (λ (l : List (List ℕ)). l ++ file_entries (g.D.Disk.seen (disk_of c.swap.new.x))) spare ∙ growing,
    )
