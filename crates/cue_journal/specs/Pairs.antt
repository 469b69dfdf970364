-- Two journals: the entries are those of the spare one and then those of the one that grows.
use Rattle.std.specs.Prelude.{Bool, ◌≡◌, ◌⊎◌, ◌++◌, ◌&&◌, ℕ, List}
use Rattle.cue_journal.specs.Frames.{file_entries}
use Rattle.cue_journal.specs.Settled.{LeavesSound}
use Rattle.cue_journal.specs.Journals.{disk_of, is_journal_open, IsJournalReady}
use Rattle.cue_journal.specs.declared.journal.Journal.{Journal}
use Rattle.cue_journal.specs.declared.pair.JournalPair.{JournalPair}

abbrev pub growing_of : {D : Type 0} → JournalPair D → Journal D
growing_of p = p.growing

abbrev pub spare_of : {D : Type 0} → JournalPair D → Journal D
spare_of p = p.spare

-- no call has failed
abbrev pub is_whole : {D : Type 0} → JournalPair D → Bool
is_whole p = is_journal_open p.growing && is_journal_open p.spare

-- the entries that the files have
abbrev pub entries_of_pair : {D : Type 0} → (D → List ℕ) → JournalPair D → List (List ℕ)
entries_of_pair seen p = file_entries (seen (disk_of p.spare)) ++ file_entries (seen (disk_of p.growing))

-- both may be written to, and both files are as between two calls
pub record IsPairReady {D : Type 0} (seen : D → List ℕ) (may_leave : D → List ℕ → Type 0) (p : JournalPair D) : Type 0 where
  pub growing : IsJournalReady seen may_leave p.growing
  pub spare : IsJournalReady seen may_leave p.spare

-- a crash may leave these entries, whatever it makes of each file
abbrev pub MayLeave : {D : Type 0} → (D → List ℕ → Type 0) → JournalPair D → List (List ℕ) → Type 0
MayLeave may_leave p entries =
    (first second : List ℕ) × may_leave (disk_of p.spare) first × may_leave (disk_of p.growing) second
    × (entries ≡ file_entries first ++ file_entries second)

-- the entries from before, with those of a batch or without
abbrev pub IsCommitted : List (List ℕ) → List (List ℕ) → List (List ℕ) → Type 0
IsCommitted entries more left = (left ≡ entries) ⊎ (left ≡ entries ++ more)

-- what was in both, with a batch behind what is spare, and then with it in the place of the others
abbrev pub IsCondensed : List (List ℕ) → List (List ℕ) → List (List ℕ) → List (List ℕ) → Type 0
IsCondensed spare growing batch left =
    (left ≡ spare ++ growing) ⊎ ((left ≡ (spare ++ batch) ++ growing) ⊎ (left ≡ spare ++ batch))

-- a crash leaves damage in neither file
abbrev pub LeaveSound : {D : Type 0} → (D → List ℕ → Type 0) → JournalPair D → Type 0
LeaveSound may_leave p = LeavesSound (may_leave (disk_of (spare_of p))) × LeavesSound (may_leave (disk_of (growing_of p)))

-- the entries are as they were, also after a crash
pub record HasSameEntries {D : Type 0} (seen : D → List ℕ) (may_leave : D → List ℕ → Type 0) (old new : JournalPair D) : Type 0 where
  pub ready : IsPairReady seen may_leave old → IsPairReady seen may_leave new
  pub entries : IsPairReady seen may_leave old → entries_of_pair seen new ≡ entries_of_pair seen old
  pub whole : is_whole new ≡ is_whole old
