-- What a table refuses of each question.
use Rattle.cue_lattice.specs.Question.{Refusals}
use Rattle.cue_row.specs.Row.{RowRefusesQuestion}
use Rattle.cue_row.specs.declared.parts.RowParts.{RowParts as Row}
use Rattle.cue_table.specs.Refuses.{TableRefuses}
use Rattle.cue_table.specs.Tree.{Tree}

abbrev pub PolicyTreeRefusals : Tree Row → Refusals
PolicyTreeRefusals = TableRefuses RowRefusesQuestion
