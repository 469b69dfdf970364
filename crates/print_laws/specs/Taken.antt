-- The printed text of a table is a legal text.
use Rattle.std.specs.Prelude.{◌≡◌, ◌⊎◌, ℕ, List, Some, Ok, Err}
use Rattle.std.specs.Str.{IsUtf8}
use Rattle.cue_lattice.specs.Limits.{level_limit}
use Rattle.cue_lex.specs.declared.token.Token.{Token}
use Rattle.cue_lex.specs.Tokens.{tokens, text_too_long}
use Rattle.cue_row.specs.declared.parts.RowParts.{RowParts as Row}
use Rattle.cue_table.specs.Tree.{Tree}
use Rattle.cue_table.specs.Valid.{IsValidTable}
use Rattle.cue_syntax.specs.Syntax.{FileTree}
use Rattle.cue_syntax.specs.Grammar.{at_most, IsFileTree}
use Rattle.cue_syntax.specs.Unplaced.{unplaced_file}
use Rattle.cue_scope.specs.Refusing.{IsLegalTree}
use Rattle.cue_print.specs.Expressions.{Fields}
use Rattle.cue_print.specs.Printed.{file_of}
use Rattle.cue_print.specs.Spelled.{file_text}
use Rattle.print_laws.specs.PrintedTree.{printed_file_tree}
use Rattle.print_laws.specs.Reading.{IsSpelling}
use Rattle.print_laws.specs.Accepted.{IsTreeOverLimit}

-- The text is legal: it is UTF-8, its tokens are a file of the grammar, on which no check fails.
-- The file is this tree but for the places.
pub record IsLegalAs (text : List ℕ) (tree : FileTree) : Type 0 where
  pub utf8 : IsUtf8 text
  pub words : List Token
  pub lexed : tokens text ≡ Ok words
  pub placed : FileTree
  pub same : unplaced_file placed ≡ tree
  pub spelled : IsFileTree (at_most level_limit) words placed
  pub legal : IsLegalTree placed.declarations

-- its tokens spell the tree, which is over a limit
pub record IsOverLimitAs (text : List ℕ) (tree : FileTree) : Type 0 where
  pub spelling : IsSpelling text tree
  pub over : IsTreeOverLimit spelling.placed

-- The printed text of a valid table where something is known is too long, or over another limit, or
-- it is a legal text, with the tree that the table is printed as.
abbrev pub IsLegalAgain : Type 0
IsLegalAgain =
    (table : Tree Row) (fields : Fields) → IsValidTable table → file_of table ≡ Some fields
    → (tokens (file_text (Some fields)) ≡ Err text_too_long)
    ⊎ (IsOverLimitAs (file_text (Some fields)) (printed_file_tree fields)
    ⊎ IsLegalAs (file_text (Some fields)) (printed_file_tree fields))
