-- Rows that are read one after another, from bytes that come in pieces.
use Rattle.std.specs.Prelude.{◌≡◌, ◌+◌, ℕ, List, [], ◌∷◌, ◌++◌, length, Option, Some, None}
use Rattle.std.specs.List.{flat_map}
use Rattle.cue_row.specs.declared.parts.RowParts.{RowParts as Row}
use Rattle.cue_table.specs.Slots as slots
use Rattle.cue_codec.specs.declared.version.Version.{Version}
use Rattle.cue_codec.specs.Decoding.{NoRows}
use Rattle.cue_codec.specs.Entry.{Entry, entry_at, path_of_place}
use Rattle.cue_codec.specs.Known.{AreRowsRead, IsIndexKnown}
use Rattle.cue_codec.specs.Reading.{ReadsItem, ReadsNoItem}
use Rattle.cue_codec.specs.RowBytes.{row_bytes, IsStateRow}
use Rattle.cue_codec.specs.StateRow.{IsStatePath}

-- Of so many rows in a version these bytes were taken in, and so many rows are missing.
pub record RowsRead : Type 0 where
  pub version : Version
  pub count : ℕ
  pub left : ℕ
  pub bytes : List ℕ

-- the entries of rows at their places, with their indexes
abbrev pub entries_from : List (slots.Place × Row) → List ℕ → List Entry
entries_from [] indexes = []
entries_from (row ∷ rows) [] = []
entries_from (row ∷ rows) (fixed ∷ indexes) =
    entry_at row.0 fixed row.1 ∷ entries_from rows indexes

-- their bytes
abbrev pub rows_bytes : Version → List (slots.Place × Row) → List ℕ → List ℕ
rows_bytes version rows indexes = flat_map (row_bytes version) (entries_from rows indexes)

-- the rows of a draft, which has none once it was refused
abbrev pub rows_in : Option (List (slots.Place × Row)) → List (slots.Place × Row)
rows_in None = []
rows_in (Some rows) = rows

-- So many of the rows are missing; the last stands at the place, and this is known after it.
pub record IsDrafting (version : Version) (count left : ℕ)
    (draft : Option (List (slots.Place × Row))) (indexes known : List ℕ) (place : slots.Place)
    : Type 0 where
  pub goes_on : draft ≡ Some (rows_in draft)
  pub read : AreRowsRead version (rows_bytes version (rows_in draft) indexes) [] count left
      (rows_in draft) indexes known
  pub steps : IsStatePath version (path_of_place place)
  pub placed : IsIndexKnown known place
  pub deep : length known ≡ 65

-- one more row was read from the front of bytes
pub record IsNext (old : RowsRead) (bytes : List ℕ) (new : RowsRead) (rest : List ℕ)
    : Type 0 where
  pub version : new.version ≡ old.version
  pub count : new.count ≡ old.count
  pub left : old.left ≡ new.left + 1
  pub entry : Entry
  pub begins : ReadsItem (IsStateRow old.version) (row_bytes old.version) entry bytes rest
  pub longer : new.bytes ≡ old.bytes ++ row_bytes old.version entry

-- no rows are these, whatever follows behind which a row that is missing stays missing
abbrev pub NoneNext : RowsRead → List ℕ → Type 0
NoneNext old bytes =
    (more : List ℕ)
    → (ReadsNoItem (IsStateRow old.version) (row_bytes old.version) bytes
    → ReadsNoItem (IsStateRow old.version) (row_bytes old.version) (bytes ++ more))
    → NoRows old.version old.count (old.bytes ++ (bytes ++ more))

-- more bytes of the rows were taken in
pub record IsMore (old : RowsRead) (piece : List ℕ) (new : RowsRead) : Type 0 where
  pub version : new.version ≡ old.version
  pub count : new.count ≡ old.count
  pub bytes : new.bytes ≡ old.bytes ++ piece

-- so many rows do not begin with these bytes
abbrev pub IsNoRowsPrefix : Version → ℕ → List ℕ → Type 0
IsNoRowsPrefix version count bytes = (more : List ℕ) → NoRows version count (bytes ++ more)

-- the bytes were taken in, or no rows begin with them
abbrev pub IsFed : RowsRead → List ℕ → Option RowsRead → Type 0
IsFed old piece (Some new) = IsMore old piece new
IsFed old piece None = IsNoRowsPrefix old.version old.count (old.bytes ++ piece)
