-- How a row is kept: what a `Row` is read as, and what each has.
use Rattle.std.specs.Prelude.{false, ℕ, ℤ, List, [], ◌∷◌, None}
use Rattle.cue_scalars.specs.declared.scalar_set.ScalarSet.{ScalarSet}
use Rattle.cue_sets.specs.Pieces.{IsCanonical}
use Rattle.cue_row.specs.declared.level.Level.{Level}
use Rattle.cue_row.specs.declared.parts.RowParts.{RowParts}
use Rattle.cue_row.specs.declared.row.RowForm.{RowForm}
use Rattle.cue_row.specs.declared.row.RowForm.TheVariants as forms
use Rattle.cue_row.specs.declared.small.Few.{Few}
use Rattle.cue_row.specs.declared.small.Small.{Small}
use Rattle.cue_row.specs.declared.small.Small.TheVariants as small
use Rattle.cue_row.specs.Made.{free_row, struct_row, lone_row, at_level}

-- some of null, false and true, with all texts or none
abbrev pub few_set : Few → ScalarSet
few_set few = record {
  null = few.null;
  no = few.no;
  yes = few.yes;
  ints = [];
  texts = (few.texts, []);
}

-- the integers of one piece
abbrev pub integers_set : ℤ × ℤ → ScalarSet
integers_set piece = record {
  null = false;
  no = false;
  yes = false;
  ints = piece ∷ [];
  texts = (false, []);
}

-- one text
abbrev pub text_set : List ℕ → ScalarSet
text_set text = record {
  null = false;
  no = false;
  yes = false;
  ints = [];
  texts = (false, text ∷ []);
}

-- the parts of a small row of this level
abbrev pub small_parts : Level → Small → RowParts
small_parts level small.Anything = free_row level
small_parts level small.Struct = struct_row level None
small_parts level (small.Few few) = lone_row level (few_set few)
small_parts level (small.Integers piece) = lone_row level (integers_set piece)
small_parts level (small.Text text) = lone_row level (text_set text)

-- the parts of a row
abbrev pub row_parts_of : RowForm → RowParts
row_parts_of (forms.Small level small) = small_parts level small
row_parts_of (forms.Whole level parts) = at_level level parts.value

-- a piece has a number
abbrev pub IsSmallRow : Small → Type 0
IsSmallRow small.Anything = Unit {0}
IsSmallRow small.Struct = Unit {0}
IsSmallRow (small.Few few) = Unit {0}
IsSmallRow (small.Integers piece) = IsCanonical (piece ∷ [])
IsSmallRow (small.Text text) = Unit {0}

abbrev pub IsSetKept : RowForm → Type 0
IsSetKept (forms.Small level small) = IsSmallRow small
IsSetKept (forms.Whole level parts) = Unit {0}
