-- How many rows a table has, and which views have too many.
use Rattle.std.specs.Prelude.{ℕ, ◌<◌, length}
use Rattle.cue_lattice.specs.Question.{Refusals, SameAnswers}
use Rattle.cue_row.specs.Row.{RefusesAsked, IsRow, RowRefusesQuestion}
use Rattle.cue_row.specs.declared.parts.RowParts.{RowParts as Row}
use Rattle.cue_table.specs.Form.{IsTable}
use Rattle.cue_table.specs.Refuses.{TableRefuses}
use Rattle.cue_table.specs.Slots.{rows_of}
use Rattle.cue_table.specs.Tree.{Tree}
use Rattle.cue_policies.specs.declared.error.ViewError.{ViewError}
use Rattle.cue_policies.specs.declared.error.ViewError.TheVariants.{Memory, TooLarge}

-- the rows of the table; those of a rest count once
abbrev pub row_count : {R : Type 0} → Tree R → ℕ
row_count tree = length (rows_of tree)

-- The table that refuses just this has more rows than the limit.
abbrev pub HasMoreRows : ℕ → Refusals → Type 0
HasMoreRows limit refuses =
    (table : Tree Row) → IsTable RefusesAsked IsRow table → SameAnswers (TableRefuses RowRefusesQuestion table) refuses
    → limit < row_count table

-- why there is no view: memory ran out, or the view is too large, and this holds then
abbrev pub IsViewError : Type 0 → ViewError → Type 0
IsViewError too_large (Memory memory) = Unit {0}
IsViewError too_large TooLarge = too_large
