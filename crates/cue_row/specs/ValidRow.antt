-- The rows that may stand in a valid table, as far as a row alone decides: what it says of its
-- parent and of what stands below it is the table's.
use Rattle.std.specs.Prelude.{◌≡◌, ◌≤◌, ℕ, List, Option, Some, None}
use Rattle.std.specs.List.{AllByRecursion}
use Rattle.cue_lattice.specs.Limits.{length_limit}
pub use Rattle.cue_lattice.specs.Word.{IsWord}
use Rattle.cue_lattice.specs.Path.{Step, label, index}
use Rattle.cue_scalars.specs.Scalars.{IsScalarsWithin}
use Rattle.cue_row.specs.declared.parts.RowParts.{RowParts as Row}
use Rattle.cue_row.specs.declared.kind.RowKind.{RowKind}
use Rattle.cue_row.specs.declared.kind.RowKind.TheVariants as kinds
use Rattle.cue_row.specs.declared.question.Question.{Question}
use Rattle.cue_row.specs.Row.{RefusesAsked}
use Rattle.cue_row.specs.Kinds.{IsEmptySet, IsFullSet, IsRowKind}

-- Usual are all scalars at a free place, some of those that may stand where scalars do, and none
-- elsewhere.
abbrev pub UsualFits : Row → RowKind → Type 0
UsualFits row kinds.Free = IsFullSet row.usual
UsualFits row kinds.Scalar = IsScalarsWithin row.usual row.value
UsualFits row kinds.Struct = IsEmptySet row.usual
UsualFits row kinds.List = IsEmptySet row.usual
UsualFits row kinds.Nothing = IsEmptySet row.usual

-- A place that leaves out labels lets a struct stand, or nothing.
abbrev pub LabelsFit : Row → RowKind → Type 0
LabelsFit row kinds.Free = row.labels ≡ None
LabelsFit row kinds.Scalar = row.labels ≡ None
LabelsFit row kinds.Struct = Unit {0}
LabelsFit row kinds.List = row.labels ≡ None
LabelsFit row kinds.Nothing = Unit {0}

-- A place that leaves out lengths lets a list stand, or nothing.
abbrev pub LengthsFit : Row → RowKind → Type 0
LengthsFit row kinds.Free = (row.least ≡ 0) × (row.most ≡ None)
LengthsFit row kinds.Scalar = (row.least ≡ 0) × (row.most ≡ None)
LengthsFit row kinds.Struct = (row.least ≡ 0) × (row.most ≡ None)
LengthsFit row kinds.List = Unit {0}
LengthsFit row kinds.Nothing = Unit {0}

-- the least length is within the limit, and a greatest one is at most the least
abbrev pub AreLengths : ℕ → Option ℕ → Type 0
AreLengths least None = least ≤ length_limit
AreLengths least (Some most) = (least ≤ length_limit) × (most ≤ least)

abbrev pub AreWords : List (List ℕ) → Type 0
AreWords = AllByRecursion IsWord

-- a label is a word
abbrev pub IsWordStep : Step → Type 0
IsWordStep (label text) = IsWord text
IsWordStep (index number) = Unit {0}

abbrev pub AreLabelWords : Option (List (List ℕ)) → Type 0
AreLabelWords None = Unit {0}
AreLabelWords (Some labels) = AreWords labels

-- each label and each text of the sets is in UTF-8 and not too long
pub record HasWords (row : Row) : Type 0 where
  pub labels : AreLabelWords row.labels
  pub value : AreWords row.value.texts.1
  pub usual : AreWords row.usual.texts.1

-- the row is of a kind, fits it, keeps the limits, and is not free
pub record IsValidRow (row : Row) : Type 0 where
  pub kind : RowKind
  pub is_kind : IsRowKind row kind
  pub usual : UsualFits row kind
  pub labels : LabelsFit row kind
  pub row_lengths : LengthsFit row kind
  pub limits : AreLengths row.least row.most
  pub texts : HasWords row
  pub not_free : ((question : Question) → ¬ RefusesAsked row question) → ⊥
