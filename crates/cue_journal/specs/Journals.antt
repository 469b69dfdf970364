use Rattle.std.specs.Prelude.{Bool, ◌≡◌, ℕ, List, true}
use Rattle.cue_journal.specs.declared.journal.Journal.{Journal}
use Rattle.cue_journal.specs.declared.journal.Room.{Room}
use Rattle.cue_journal.specs.declared.journal.Room.TheVariants.{Enough, Refused}
use Rattle.cue_journal.specs.Settled.{IsJournalSettled}

abbrev pub disk_of : {D : Type 0} → Journal D → D
disk_of j = j.disk

-- how many bytes the blocks that count have
abbrev pub end_of : {D : Type 0} → Journal D → ℕ
end_of j = j.end

-- how many bytes the file has behind what counts, as far as the journal made them
abbrev pub room_of : {D : Type 0} → Journal D → ℕ
room_of j = j.room

-- no commit of it has failed
abbrev pub is_journal_open : {D : Type 0} → Journal D → Bool
is_journal_open j = j.open

-- it may be written to, and its file is as between two calls
pub record IsJournalReady {D : Type 0} (seen : D → List ℕ) (may_leave : D → List ℕ → Type 0) (j : Journal D) : Type 0 where
  pub settled : IsJournalSettled (seen j.disk) (may_leave j.disk) j.end
  pub open_still : j.open ≡ true

-- the disk had room
abbrev pub IsEnough : Room → Type 0
IsEnough Enough = Unit {0}
IsEnough (Refused error) = ⊥
