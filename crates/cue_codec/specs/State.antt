-- The state bytes of a table in a version: a mark, the version, how many rows there are, and the
-- rows in the order of their places.
use Rattle.std.specs.Prelude.{◌≡◌, ℕ, List, [], ◌∷◌, ◌++◌}
use Rattle.cue_row.specs.declared.parts.RowParts.{RowParts as Row}
use Rattle.cue_table.specs.Tree.{Tree}
use Rattle.cue_codec.specs.declared.version.Version.{Version}
use Rattle.cue_codec.specs.Entry.{Entry, entries_of, CanHoldTable}
use Rattle.cue_codec.specs.Parts.{counted_bytes}
use Rattle.cue_codec.specs.RowBytes.{row_bytes}
use Rattle.cue_codec.specs.Version.{version_byte, written_version}

-- how every state begins
abbrev pub state_mark : List ℕ
state_mark = 254 ∷ 67 ∷ 85 ∷ 69 ∷ []

-- the mark, the version, the count in 8 bytes, and the rows
unfoldable pub state_bytes : Version → List Entry → List ℕ
state_bytes version rows = state_mark ++ (version_byte version ∷ counted_bytes (row_bytes version) rows)

-- the state bytes of a table in a version
abbrev pub table_bytes_in : Version → Tree Row → List ℕ
table_bytes_in version tree = state_bytes version (entries_of version tree)

-- the state bytes of a table, in the version that is written
abbrev pub table_bytes : Tree Row → List ℕ
table_bytes tree = table_bytes_in written_version tree

-- these are the state bytes of the table, in a version that tells all of it
abbrev pub IsTableBytes : List ℕ → Tree Row → Type 0
IsTableBytes bytes tree =
    (version : Version) × CanHoldTable version tree × (table_bytes_in version tree ≡ bytes)
