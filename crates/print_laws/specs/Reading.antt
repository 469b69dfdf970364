-- What the printed text of a table is, read again: its tokens.
use Rattle.std.specs.Prelude.{◌≡◌, ◌⊎◌, ℕ, List, Some, Ok, Err}
use Rattle.cue_lex.specs.declared.token.Token.{Token}
use Rattle.cue_lex.specs.Tokens.{tokens, text_too_long}
use Rattle.cue_row.specs.declared.parts.RowParts.{RowParts as Row}
use Rattle.cue_table.specs.Tree.{Tree}
use Rattle.cue_table.specs.Valid.{IsValidTable}
use Rattle.cue_syntax.specs.Syntax.{FileTree}
use Rattle.cue_syntax.specs.Grammar.{unlimited, IsFileTree}
use Rattle.cue_syntax.specs.Unplaced.{unplaced_file}
use Rattle.cue_print.specs.Printed.{file_of}
use Rattle.cue_print.specs.Spelled.{file_text}
use Rattle.cue_print.specs.Expressions.{Fields}
use Rattle.print_laws.specs.PrintedTree.{printed_file_tree}

-- The text has tokens, and they are a file of the grammar, whatever levels it opens. Its tree is
-- this one but for the places.
pub record IsSpelling (text : List ℕ) (tree : FileTree) : Type 0 where
  pub found : List Token
  pub are : tokens text ≡ Ok found
  pub placed : FileTree
  pub same : unplaced_file placed ≡ tree
  pub spelled : IsFileTree unlimited found placed

-- The printed text of a table is too long, or its tokens spell the tree that the table is printed
-- as.
abbrev pub IsReadAs : Tree Row → Fields → Type 0
IsReadAs table fields =
    (tokens (file_text (Some fields)) ≡ Err text_too_long)
    ⊎ IsSpelling (file_text (Some fields)) (printed_file_tree fields)

-- A valid table where something is known is read again as the tree that it is printed as.
abbrev pub IsTextReadAgain : Type 0
IsTextReadAgain =
    (table : Tree Row) (fields : Fields) → IsValidTable table → file_of table ≡ Some fields
    → IsReadAs table fields
