-- The file that a table is printed as.
use Rattle.std.proofs.Common.{◌≡◌, ℕ, List, Some, None, refl}
use Rattle.std.specs.Prelude.{codes}
use Rattle.std.specs.List.{flat_map}
use Rattle.cue_row.specs.declared.parts.RowParts.{RowParts as Row}
use Rattle.cue_table.specs.Tree.{Tree, node, below, row_of}
use Rattle.cue_print.specs.Printed.{fields_below, file_of}
use Rattle.cue_print.specs.Spelled.{line, value_text, field_texts, file_text}

pub free_file : (tree : Tree Row) → None ≡ row_of tree → codes "_\n" ≡ file_text (file_of tree)
unfolding file_text file_of value_text
free_file (node None children rest) e = refl
free_file (node (Some row) children rest) e = cc

pub lines_file : (tree : Tree Row) (row : Row) → Some row ≡ row_of tree → flat_map line (field_texts (fields_below (below tree))) ≡ file_text (file_of tree)
unfolding file_text file_of
lines_file (node None children rest) row e = cc
lines_file (node (Some here) children rest) row e = refl
