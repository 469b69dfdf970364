-- The scalar that is exported where a scalar stands.
use Rattle.std.specs.Prelude.{◌⊎◌}
use Rattle.cue_lattice.specs.declared.scalar.Scalar.{Scalar}
use Rattle.cue_scalars.specs.Scalars.{IsOnlyScalar}
use Rattle.cue_row.specs.declared.parts.RowParts.{RowParts as Row}
use Rattle.cue_row.specs.Kinds.{IsEmptySet}

-- the only usual scalar, or, where none is usual, the only one that may stand
abbrev pub IsRowChosen : Row → Scalar → Type 0
IsRowChosen row scalar =
    IsOnlyScalar row.usual scalar ⊎ (IsEmptySet row.usual × IsOnlyScalar row.value scalar)
