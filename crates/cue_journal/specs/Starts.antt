-- Two journals that were read at a start.
use Rattle.std.specs.Prelude.{◌≡◌, ◌⊎◌, ◌≤◌, ◌++◌, ℕ, List}
use Rattle.cue_journal.specs.Frames.{file_entries}
use Rattle.cue_journal.specs.Journals.{end_of}
use Rattle.cue_journal.specs.Pairs.{IsPairReady, entries_of_pair, growing_of, spare_of}
use Rattle.cue_journal.specs.declared.pair.JournalPair.{JournalPair}

-- the entries of the spare journal and of the one that grows are just those of the two files
abbrev pub AreOfFiles : List (List ℕ) → List (List ℕ) → List ℕ → List ℕ → Type 0
AreOfFiles spare growing first second =
    ((spare ≡ file_entries first) × (growing ≡ file_entries second)) ⊎ ((spare ≡ file_entries second) × (growing ≡ file_entries first))

-- both may be written to, and they have just the entries that were read of these files; the longer one grows
pub record IsStarted {D : Type 0} (seen : D → List ℕ) (may_leave : D → List ℕ → Type 0) (first second : D) (files : JournalPair D) (spare growing : List (List ℕ)) : Type 0 where
  pub ready : IsPairReady seen may_leave files
  pub entries : entries_of_pair seen files ≡ spare ++ growing
  pub all : AreOfFiles spare growing (seen first) (seen second)
  pub longer : end_of (spare_of files) ≤ end_of (growing_of files)
