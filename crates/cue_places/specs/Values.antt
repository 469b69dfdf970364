-- Which tables are printed as files.
use Rattle.std.specs.Prelude.{◌≡◌, ◌⊎◌, None, Some}
use Rattle.cue_row.specs.Kinds.{IsRowKind}
use Rattle.cue_row.specs.declared.kind.RowKind.TheVariants as kinds
use Rattle.cue_row.specs.declared.parts.RowParts.{RowParts as Row}
use Rattle.cue_table.specs.Tree.{Tree, row_of}
use Rattle.cue_table.specs.Valid.{IsOpenStruct}

-- nothing is known at the root, or anything may be there, or an open struct
abbrev pub IsFileValue : Tree Row → Type 0
IsFileValue table =
    (row_of table ≡ None)
    ⊎ ((row : Row) × (row_of table ≡ Some row) × (IsRowKind row kinds.Free ⊎ IsOpenStruct row))
