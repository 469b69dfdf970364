-- Rows that refuse all that others refuse, but for levels.
use Rattle.std.specs.Prelude.{◌≡◌, ◌≤ℤ◌, ℤ, None}
use Rattle.cue_row.specs.declared.level.Level.TheVariants.{Optional}
use Rattle.cue_row.specs.declared.parts.RowParts.{RowParts as Row}
use Rattle.cue_row.specs.declared.question.Question.{Question}
use Rattle.cue_row.specs.Made.{at_level}
use Rattle.cue_row.specs.Row.{RefusesAsked}

-- the first row refuses what the second refuses at the lowest level
abbrev pub CoversRow : Row → Row → Type 0
CoversRow a b = (question : Question) → RefusesAsked (at_level Optional b) question → RefusesAsked a question

-- the row refuses no label and no length
pub record IsOpenBelow (row : Row) : Type 0 where
  pub labels : row.labels ≡ None
  pub least : row.least ≡ 0
  pub most : row.most ≡ None

-- the numbers from a first to a last one are all among others
abbrev pub IsPieceWithin : ℤ × ℤ → ℤ × ℤ → Type 0
IsPieceWithin piece other = (other.0 ≤ℤ piece.0) × (piece.1 ≤ℤ other.1)
