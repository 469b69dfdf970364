-- What the grammar and the checks say of the tree that a table is printed as.
use Rattle.std.specs.Prelude.{◌≡◌, ◌⊎◌, ◌<◌, Some}
use Rattle.cue_lattice.specs.Limits.{level_limit, size_limit, step_limit}
use Rattle.cue_row.specs.declared.parts.RowParts.{RowParts as Row}
use Rattle.cue_table.specs.Tree.{Tree}
use Rattle.cue_table.specs.Valid.{IsValidTable}
use Rattle.cue_syntax.specs.Syntax.{FileTree}
use Rattle.cue_syntax.specs.Grammar.{IsFragment, levels_of_entries}
use Rattle.cue_syntax.specs.Unplaced.{unplaced_file}
use Rattle.cue_scope.specs.Limits.{size, depth}
use Rattle.cue_scope.specs.Meaning.{meant_text}
use Rattle.cue_scope.specs.Refusing.{IsLegalTree}
use Rattle.cue_print.specs.Expressions.{Fields}
use Rattle.cue_print.specs.Printed.{file_of}
use Rattle.print_laws.specs.PrintedTree.{printed_file_tree}

-- the tree is a well-formed fragment, and no check fails on it
pub record IsAccepted (tree : FileTree) : Type 0 where
  pub fragment : IsFragment tree.package_clause tree.declarations tree.comma
  pub legal : IsLegalTree tree.declarations

-- it opens too many levels, is too large, or has too long a path
abbrev pub IsTreeOverLimit : FileTree → Type 0
IsTreeOverLimit tree =
    (level_limit < levels_of_entries tree.declarations)
    ⊎ ((size_limit < size (meant_text tree.declarations))
    ⊎ (step_limit < depth (meant_text tree.declarations)))

-- Wherever its tokens stand, the tree that a valid table is printed as is accepted, or it is over a
-- limit.
abbrev pub IsAcceptedAgain : Type 0
IsAcceptedAgain =
    (table : Tree Row) (fields : Fields) → IsValidTable table → file_of table ≡ Some fields
    → (tree : FileTree) → unplaced_file tree ≡ printed_file_tree fields
    → IsAccepted tree ⊎ IsTreeOverLimit tree
