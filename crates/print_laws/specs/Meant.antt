-- What the printed text of a table means: the table.
use Rattle.std.specs.Prelude.{◌≡◌, ◌⊎◌, ℕ, List, Some, Err}
use Rattle.cue_lattice.specs.Question.{SameAnswers}
use Rattle.cue_lex.specs.Tokens.{tokens, text_too_long}
use Rattle.cue_row.specs.declared.parts.RowParts.{RowParts as Row}
use Rattle.cue_row.specs.Row.{RowRefusesQuestion}
use Rattle.cue_table.specs.Refuses.{TableRefuses}
use Rattle.cue_table.specs.Tree.{Tree}
use Rattle.cue_table.specs.Valid.{IsValidTable}
use Rattle.cue_syntax.specs.Syntax.{Entries, FileTree}
use Rattle.cue_syntax.specs.Unplaced.{unplaced_file}
use Rattle.cue_scope.specs.Meaning.{meant_text}
use Rattle.cue_eval.specs.Refuses.{Refuses}
use Rattle.cue_print.specs.Expressions.{Fields}
use Rattle.cue_print.specs.Printed.{file_of}
use Rattle.cue_print.specs.Spelled.{file_text}
use Rattle.print_laws.specs.PrintedTree.{printed_file_tree}
use Rattle.print_laws.specs.Taken.{IsLegalAs, IsOverLimitAs}

-- At each path the declarations refuse just the questions that the table refuses there.
abbrev pub TreeMeans : Entries → Tree Row → Type 0
TreeMeans declarations table =
    SameAnswers (Refuses (meant_text declarations)) (TableRefuses RowRefusesQuestion table)

-- Wherever its tokens stand, the tree that a valid table is printed as means the table.
abbrev pub IsMeantAgain : Type 0
IsMeantAgain =
    (table : Tree Row) (fields : Fields) → IsValidTable table → file_of table ≡ Some fields
    → (tree : FileTree) → unplaced_file tree ≡ printed_file_tree fields → TreeMeans tree.declarations table

-- The text is legal, with this tree but for the places, and it means the table.
pub record IsLegalAndMeans (text : List ℕ) (tree : FileTree) (table : Tree Row) : Type 0 where
  pub read : IsLegalAs text tree
  pub means : TreeMeans read.placed.declarations table

-- The printed text of a valid table where something is known is too long, or over another limit, or
-- it is legal and means the table.
abbrev pub IsTableAgain : Type 0
IsTableAgain =
    (table : Tree Row) (fields : Fields) → IsValidTable table → file_of table ≡ Some fields
    → (tokens (file_text (Some fields)) ≡ Err text_too_long)
    ⊎ (IsOverLimitAs (file_text (Some fields)) (printed_file_tree fields)
    ⊎ IsLegalAndMeans (file_text (Some fields)) (printed_file_tree fields) table)
