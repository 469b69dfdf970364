-- What a journal's file is between two calls, and within one.
use Rattle.std.specs.Prelude.{◌≡◌, ◌⊎◌, ℕ, false, List, [], ◌∷◌, ◌++◌, length}
use Rattle.sqlite_disk.specs.Disk.{Only}
use Rattle.cue_journal.specs.Blocks.{recovered_pieces, StandsFor}
use Rattle.cue_journal.specs.Frames.{file_head, file_entries, is_open_gate, Bring, IsSound}

-- the head, whole frames up to `end`, and then a gate that is closed
pub record EndsAt (file : List ℕ) (end : ℕ) : Type 0 where
  pub frames : List ℕ
  pub gate : ℕ
  pub junk : List ℕ
  pub split : file ≡ (file_head ++ frames) ++ gate ∷ junk
  pub shut : is_open_gate gate ≡ false
  pub size : end ≡ length (file_head ++ frames)
  pub bring : Bring frames (file_entries file)

-- Up to the closed gate all of it is on the disk. Behind that a crash may leave anything.
pub record IsJournalSettled (seen : List ℕ) (may_leave : List ℕ → Type 0) (end : ℕ) : Type 0 where
  pub ends : EndsAt seen end
  pub durable : (c : List ℕ) → may_leave c → (junk : List ℕ) × (c ≡ (file_head ++ ends.frames) ++ ends.gate ∷ junk)

-- whole frames, a gate that is closed, and these bytes behind it
pub record IsStaged (seen : List ℕ) (may_leave : List ℕ → Type 0) (end : ℕ) (front bytes : List ℕ) : Type 0 where
  pub gate : ℕ
  pub junk : List ℕ
  pub file : seen ≡ front ++ gate ∷ (bytes ++ junk)
  pub shut : is_open_gate gate ≡ false
  pub size : end ≡ length front
  pub durable : Only seen may_leave

-- whole blocks, of which the first is the next to be opened
pub record IsBatch (bytes : List ℕ) : Type 0 where
  pub stands : StandsFor bytes (recovered_pieces bytes)
  pub opens : (bytes ≡ []) ⊎ ((rest : List ℕ) × (bytes ≡ 1 ∷ rest))

-- the file has the entries, with some more or without them
abbrev pub IsBeforeOrAfter : List (List ℕ) → List (List ℕ) → List ℕ → Type 0
IsBeforeOrAfter entries more file = (file_entries file ≡ entries) ⊎ (file_entries file ≡ entries ++ more)

-- it has the entries, or none
abbrev pub IsKeptOrCleared : List (List ℕ) → List ℕ → Type 0
IsKeptOrCleared entries file = (file_entries file ≡ entries) ⊎ (file_entries file ≡ [])

-- a crash leaves no damage
abbrev pub LeavesSound : (List ℕ → Type 0) → Type 0
LeavesSound may_leave = (c : List ℕ) → may_leave c → IsSound c
