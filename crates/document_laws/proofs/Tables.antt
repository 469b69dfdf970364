-- The table of a text is exact against documents.
use Rattle.cue_lattice.proofs.Meeting.{same}
use Rattle.cue_row.specs.declared.parts.RowParts.{RowParts as Row}
use Rattle.cue_row.specs.Row.{RowRefusesQuestion}
use Rattle.cue_table.specs.Tree.{Tree}
use Rattle.cue_table.specs.Refuses.{TableRefuses}
use Rattle.cue_syntax.specs.Syntax.{Entries}
use Rattle.cue_scope.specs.Meaning.{meant_text}
use Rattle.cue_eval.specs.Refuses.{Refuses}
use Rattle.cue_eval.specs.Evaluated.{HasAnswersOf}
use Rattle.document_laws.specs.Tables.{IsExactTable, AreExactTables}
use Rattle.document_laws.proofs.Exact.{exact}

pub exact_table : (es : Entries) (table : Tree Row) → HasAnswersOf (meant_text es) table → IsExactTable es table
exact_table es table has d is =
    let law = exact (meant_text es) d is in
    let answers = same (TableRefuses RowRefusesQuestion table) (Refuses (meant_text es)) has d in
    (λ h. answers.1 (law.0 h), λ m. law.1 (answers.0 m))

pub exact_tables : AreExactTables
exact_tables es table is = exact_table es table is.answers
