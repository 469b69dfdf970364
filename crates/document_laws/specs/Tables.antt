-- Tables against documents.
use Rattle.std.specs.Prelude.{◌↔◌}
use Rattle.cue_lattice.specs.Document.{Document, IsDocument}
use Rattle.cue_lattice.specs.Meets.{Meets}
use Rattle.cue_row.specs.declared.parts.RowParts.{RowParts as Row}
use Rattle.cue_row.specs.Row.{RowRefusesQuestion}
use Rattle.cue_table.specs.Tree.{Tree}
use Rattle.cue_table.specs.Refuses.{TableRefuses}
use Rattle.cue_syntax.specs.Syntax.{Entries}
use Rattle.cue_scope.specs.Meaning.{meant_text}
use Rattle.cue_eval.specs.Evaluated.{IsEvaluated}
use Rattle.document_laws.specs.Admits.{table_admits}

-- A document is admitted by the text exactly where it meets the table.
abbrev pub IsExactTable : Entries → Tree Row → Type 0
IsExactTable es table =
    (d : Document) → IsDocument d → table_admits es d ↔ Meets (TableRefuses RowRefusesQuestion table) d

-- So it is with each table that evaluation may give of a text.
abbrev pub AreExactTables : Type 0
AreExactTables =
    (es : Entries) (table : Tree Row) → IsEvaluated (meant_text es) table → IsExactTable es table
