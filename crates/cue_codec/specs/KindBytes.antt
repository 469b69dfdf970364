-- The bytes of a row by its kind, in a version: what the kind leaves open stands behind the kind's
-- number.
use Rattle.std.specs.Prelude.{◌≡◌, ℕ, List, [], ◌∷◌, ◌++◌}
use Rattle.cue_row.specs.declared.kind.RowKind.{RowKind}
use Rattle.cue_row.specs.declared.kind.RowKind.TheVariants as kinds
use Rattle.cue_row.specs.declared.parts.RowParts.{RowParts as Row}
use Rattle.cue_row.specs.Kinds.{IsRowKind}
use Rattle.cue_row.specs.Levels.{level_of}
use Rattle.cue_row.specs.Row.{IsRow}
use Rattle.cue_codec.specs.declared.version.Version.{Version}
use Rattle.cue_codec.specs.Entry.{Entry}
use Rattle.cue_codec.specs.Parts.{set_bytes, labels_bytes, lengths_bytes, path_bytes}
use Rattle.cue_codec.specs.RowBytes.{row_bytes}

-- the scalars that may stand and the usual ones, the labels, the lengths of a list, or, where
-- nothing may stand, the labels and lengths that are left out
abbrev pub kind_bytes : Version → RowKind → Row → ℕ → List ℕ
kind_bytes version kinds.Free row fixed = 0 ∷ []
kind_bytes version kinds.Scalar row fixed = 1 ∷ (set_bytes row.value ++ set_bytes row.usual)
kind_bytes version kinds.Struct row fixed = 2 ∷ labels_bytes row.labels
kind_bytes version kinds.List row fixed = 3 ∷ lengths_bytes version (row.least, row.most, fixed)
kind_bytes version kinds.Nothing row fixed =
    4 ∷ (labels_bytes row.labels ++ lengths_bytes version (row.least, row.most, fixed))

-- a row of a kind is its path, its level and the bytes of its kind
abbrev pub AreBytesOfKinds : Type 0
AreBytesOfKinds =
    (version : Version) (entry : Entry) (kind : RowKind) → IsRow entry.row → IsRowKind entry.row kind
    → row_bytes version entry
    ≡ path_bytes version entry.path
    ++ (level_of entry.row.level ∷ kind_bytes version kind entry.row entry.fixed)
