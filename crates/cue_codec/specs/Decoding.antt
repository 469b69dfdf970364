-- Which bytes are refused, and why.
use Rattle.std.specs.Prelude.{◌≡◌, ◌⊎◌, ℕ, List, ◌∷◌, ◌++◌, length}
use Rattle.std.specs.Int.{w64, to_be_bytes}
use Rattle.std.specs.List.{flat_map, AllByRecursion}
use Rattle.cue_lattice.specs.declared.refusal.Kind.{Kind}
use Rattle.cue_lattice.specs.declared.refusal.Kind.TheVariants as kinds
use Rattle.cue_row.specs.declared.parts.RowParts.{RowParts as Row}
use Rattle.cue_row.specs.Row.{RefusesAsked, IsRow}
use Rattle.cue_table.specs.Tree.{Tree}
use Rattle.cue_table.specs.Slots.{rows_of}
use Rattle.cue_table.specs.Form.{IsTable}
use Rattle.cue_table.specs.Valid.{IsValidTable}
use Rattle.cue_codec.specs.declared.version.Version.{Version}
use Rattle.cue_codec.specs.Entry.{entries_of}
use Rattle.cue_codec.specs.Known.{no_indexes, rows_with}
use Rattle.cue_codec.specs.RowBytes.{row_bytes, IsStateRow}
use Rattle.cue_codec.specs.State.{state_mark, IsTableBytes}
use Rattle.cue_codec.specs.Version.{version_byte, IsNoVersion}

-- the mark, and after it a version that is not known
abbrev pub IsOtherStateVersion : List ℕ → Type 0
IsOtherStateVersion bytes =
    (version : ℕ) × (rest : List ℕ) × (bytes ≡ state_mark ++ (version ∷ rest)) × IsNoVersion version

-- the bytes of no valid table, in whichever version
abbrev pub IsNoState : List ℕ → Type 0
IsNoState bytes = (tree : Tree Row) → IsValidTable tree → ¬ IsTableBytes bytes tree

-- The version is not known; or it is, or there is none, and no valid table has these bytes.
abbrev pub IsRejected : List ℕ → Kind → Type 0
IsRejected bytes kind =
    ((kind ≡ kinds.Version) × IsOtherStateVersion bytes)
    ⊎ ((kind ≡ kinds.NotState) × ¬ IsOtherStateVersion bytes × IsNoState bytes)

-- the mark, a version that is known, a count in 8 bytes, and whatever follows
abbrev pub HasStateHead : List ℕ → Type 0
HasStateHead bytes =
    (version : Version) × (count : ℕ) × (rest : List ℕ)
    × (bytes ≡ state_mark ++ (version_byte version ∷ (to_be_bytes w64 count ++ rest)))

-- Memory ran out while the rows were read, and so only where the bytes begin as those of a state
-- do; or the bytes are rejected.
abbrev pub IsUndecoded : List ℕ → Kind → Type 0
IsUndecoded bytes kind = ((kind ≡ kinds.Memory) × HasStateHead bytes) ⊎ IsRejected bytes kind

-- the table has so many rows, these bytes are theirs in a version, and the rests among their places
-- have the numbers of the rows above them
pub record AreReadRows (version : Version) (count : ℕ) (bytes : List ℕ) (tree : Tree Row)
    : Type 0 where
  pub form : IsTable RefusesAsked IsRow tree
  pub rows : AllByRecursion (IsStateRow version) (entries_of version tree)
  pub places : rows_of tree ≡ rows_with no_indexes (entries_of version tree)
  pub counted : length (entries_of version tree) ≡ count
  pub parts : bytes ≡ flat_map (row_bytes version) (entries_of version tree)

-- no table has so many rows of these bytes in a version
abbrev pub NoRows : Version → ℕ → List ℕ → Type 0
NoRows version count bytes = (tree : Tree Row) → ¬ AreReadRows version count bytes tree
