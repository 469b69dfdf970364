-- A file that was read at a start.
use Rattle.std.specs.Prelude.{◌≡◌, ℕ, List}
use Rattle.cue_journal.specs.Frames.{file_entries}
use Rattle.cue_journal.specs.Settled.{IsJournalSettled}

-- the entries of a file were read, and a journal goes on in it
pub record IsReadOf {D : Type 0} (seen : D → List ℕ) (may_leave : D → List ℕ → Type 0) (old new : D) (end : ℕ) (entries : List (List ℕ)) : Type 0 where
  pub read : entries ≡ file_entries (seen old)
  pub same : file_entries (seen new) ≡ file_entries (seen old)
  pub settled : IsJournalSettled (seen new) (may_leave new) end
