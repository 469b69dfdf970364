-- What evaluation owes.
use Rattle.cue_lattice.specs.Question.{SameAnswers}
use Rattle.cue_row.specs.declared.parts.RowParts.{RowParts as Row}
use Rattle.cue_row.specs.Row.{RowRefusesQuestion}
use Rattle.cue_table.specs.Tree.{Tree}
use Rattle.cue_table.specs.Refuses.{TableRefuses}
use Rattle.cue_table.specs.Valid.{IsValidTable}
use Rattle.cue_scope.specs.Core.{Core}
use Rattle.cue_eval.specs.Refuses.{Refuses}

-- the table refuses, at every path, exactly what the expression refuses
abbrev pub HasAnswersOf : Core → Tree Row → Type 0
HasAnswersOf c table = SameAnswers (TableRefuses RowRefusesQuestion table) (Refuses c)

-- and the table is valid
pub record IsEvaluated (c : Core) (table : Tree Row) : Type 0 where
  pub answers : HasAnswersOf c table
  pub valid : IsValidTable table
