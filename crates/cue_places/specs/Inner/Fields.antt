-- The table with one field, as which a value is printed.
use Rattle.std.specs.Prelude.{ℕ, List, [], ◌∷◌, codes, None, Some}
use Rattle.cue_lattice.specs.Path.{label}
use Rattle.cue_row.specs.Made.{struct_row}
use Rattle.cue_row.specs.declared.level.Level.TheVariants.{Optional}
use Rattle.cue_row.specs.declared.parts.RowParts.{RowParts as Row}
use Rattle.cue_table.specs.Tree.{Tree, node, none, child, no_rest}

-- the label of the field
abbrev pub name : List ℕ
name = codes "v"

abbrev pub one_field : Tree Row → Tree Row
one_field value = node (Some (struct_row Optional None)) (child (label name) value none) no_rest
