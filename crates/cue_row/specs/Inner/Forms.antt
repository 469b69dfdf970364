-- What a row says of anything but scalars and labels, and whether it fits its kind.
use Rattle.std.specs.Prelude.{◌≡◌, ◌≤◌, ℕ, true, false, None}
use Rattle.cue_row.specs.Levels.{level_of}
use Rattle.cue_row.specs.Lengths.{RefusesLength}
use Rattle.cue_row.specs.declared.level.Level.TheVariants.{Optional}
use Rattle.cue_row.specs.declared.kind.RowKind.{RowKind}
use Rattle.cue_row.specs.declared.parts.RowParts.{RowParts as Row}
use Rattle.cue_row.specs.Kinds.{IsRowKind}
use Rattle.cue_row.specs.ValidRow.{UsualFits, LabelsFit, LengthsFit, AreLengths, HasWords}

-- it refuses no level, struct, list or length
pub record AllowsAllForms (row : Row) : Type 0 where
  pub level : row.level ≡ Optional
  pub struct_ok : row.struct_ok ≡ true
  pub list_ok : row.list_ok ≡ true
  pub least : row.least ≡ 0
  pub most : row.most ≡ None

-- the first refuses what the second refuses
pub record IsFormWithin (a b : Row) : Type 0 where
  pub level : level_of b.level ≤ level_of a.level
  pub struct_ok : b.struct_ok ≡ false → a.struct_ok ≡ false
  pub list_ok : b.list_ok ≡ false → a.list_ok ≡ false
  pub least : b.least ≤ a.least
  pub most : (n : ℕ) → RefusesLength b.most n → RefusesLength a.most n

-- the row is of a kind, fits it, and keeps the limits
pub record IsFitRow (row : Row) : Type 0 where
  pub kind : RowKind
  pub is_kind : IsRowKind row kind
  pub usual : UsualFits row kind
  pub labels : LabelsFit row kind
  pub row_lengths : LengthsFit row kind
  pub limits : AreLengths row.least row.most
  pub texts : HasWords row
