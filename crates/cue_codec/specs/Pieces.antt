-- State bytes in pieces: what a reader has taken in, and what a writer hands out.
use Rattle.std.specs.Prelude.{◌≡◌, ◌<◌, ◌^◌, ℕ, List, ◌++◌, length, min, take, drop}
use Rattle.cue_lattice.specs.declared.refusal.Kind.{Kind}
use Rattle.cue_lattice.specs.declared.refusal.Kind.TheVariants as kinds
use Rattle.cue_row.specs.declared.parts.RowParts.{RowParts as Row}
use Rattle.cue_table.specs.Tree.{Tree}
use Rattle.cue_table.specs.Valid.{IsValidTable}
use Rattle.cue_codec.specs.State.{IsTableBytes}
use Rattle.cue_codec.specs.Decoding.{IsOtherStateVersion, IsUndecoded}

-- what a reader has taken in: these bytes so far; or a fault that stands, whatever follows: the
-- version is another one, or no state begins so; or memory ran out
pub data Intake : Type 0 where
  so_far : List ℕ → Intake
  other_version : Intake
  no_state : Intake
  failed : Intake

-- whatever follows these bytes, of any number of bytes that a memory can hold, no valid table has
-- them
abbrev pub IsNoStatePrefix : List ℕ → Type 0
IsNoStatePrefix bytes =
    (tree : Tree Row) (rest : List ℕ) → IsValidTable tree → length (bytes ++ rest) < 2 ^ 64
    → ¬ IsTableBytes (bytes ++ rest) tree

-- what a reader has taken in that was handed all of these bytes
abbrev pub IsIntake : List ℕ → Intake → Type 0
IsIntake bytes (so_far taken) = taken ≡ bytes
IsIntake bytes other_version = IsOtherStateVersion bytes
IsIntake bytes no_state = IsNoStatePrefix bytes × ¬ IsOtherStateVersion bytes
IsIntake bytes failed = ⊥

-- A piece was taken in: it stands behind the bytes before it, or there is a fault now that stands.
-- Behind such a fault pieces are dropped.
abbrev pub IsTakenIn : Intake → List ℕ → Intake → Type 0
IsTakenIn (so_far bytes) piece new = IsIntake (bytes ++ piece) new
IsTakenIn other_version piece new = new ≡ other_version
IsTakenIn no_state piece new = new ≡ no_state
IsTakenIn failed piece new = ⊥

-- Memory ran out while a piece was taken in, or it did before: for good.
abbrev pub IsNotTakenIn : Intake → Kind → Intake → Type 0
IsNotTakenIn (so_far bytes) kind new = (kind ≡ kinds.Memory) × (new ≡ failed)
IsNotTakenIn other_version kind new = ⊥
IsNotTakenIn no_state kind new = ⊥
IsNotTakenIn failed kind new = (kind ≡ kinds.Failed) × (new ≡ failed)

-- the bytes that were taken in are those of the table
abbrev pub IsReadTable : Intake → Tree Row → Type 0
IsReadTable (so_far bytes) table = IsTableBytes bytes table
IsReadTable other_version table = ⊥
IsReadTable no_state table = ⊥
IsReadTable failed table = ⊥

-- why there is no table
abbrev pub IsIntakeUnread : Intake → Kind → Type 0
IsIntakeUnread (so_far bytes) kind = IsUndecoded bytes kind
IsIntakeUnread other_version kind = kind ≡ kinds.Version
IsIntakeUnread no_state kind = kind ≡ kinds.NotState
IsIntakeUnread failed kind = kind ≡ kinds.Failed

-- As many bytes as fit into the room, of those that are left, stand at its front; the others are
-- left.
pub record IsFilled (left room : List ℕ) (count : ℕ) (left_after room_after : List ℕ)
    : Type 0 where
  pub counted : count ≡ min (length room) (length left)
  pub written : room_after ≡ take count left ++ drop count room
  pub rest : left_after ≡ drop count left
