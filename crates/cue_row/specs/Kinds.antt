-- The kinds of rows: what may stand at a place.
use Rattle.std.specs.Prelude.{◌≡◌, true, false}
use Rattle.cue_lattice.specs.declared.scalar.Scalar.{Scalar}
use Rattle.cue_scalars.specs.declared.scalar_set.ScalarSet.{ScalarSet}
use Rattle.cue_scalars.specs.Scalars.{members, RefusesScalar}
use Rattle.cue_row.specs.declared.parts.RowParts.{RowParts as Row}
use Rattle.cue_row.specs.declared.kind.RowKind.{RowKind}
use Rattle.cue_row.specs.declared.kind.RowKind.TheVariants as kinds

-- no scalar is in the set
abbrev pub IsEmptySet : ScalarSet → Type 0
IsEmptySet set = (scalar : Scalar) → members set scalar ≡ false

-- the set refuses no scalar
abbrev pub IsFullSet : ScalarSet → Type 0
IsFullSet set = (scalar : Scalar) → ¬ RefusesScalar set scalar

-- which scalars, whether a struct and whether a list may stand
abbrev pub IsRowKind : Row → RowKind → Type 0
IsRowKind row kinds.Free = IsFullSet row.value × (row.struct_ok ≡ true) × (row.list_ok ≡ true)
IsRowKind row kinds.Scalar = (¬ IsEmptySet row.value) × (row.struct_ok ≡ false) × (row.list_ok ≡ false)
IsRowKind row kinds.Struct = IsEmptySet row.value × (row.struct_ok ≡ true) × (row.list_ok ≡ false)
IsRowKind row kinds.List = IsEmptySet row.value × (row.struct_ok ≡ false) × (row.list_ok ≡ true)
IsRowKind row kinds.Nothing = IsEmptySet row.value × (row.struct_ok ≡ false) × (row.list_ok ≡ false)
