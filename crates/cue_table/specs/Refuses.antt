-- What a table refuses.
use Rattle.std.specs.Prelude.{Option, Some, None}
use Rattle.cue_lattice.specs.Path.{Path}
use Rattle.cue_table.specs.Tree.{Tree, row_at}

-- the row refuses the question; where there is none, nothing is refused
abbrev pub RowRefuses : {R Q : Type 0} → (R → Q → Type 0) → Option R → Q → Type 0
RowRefuses refuses None question = ⊥
RowRefuses refuses (Some row) question = refuses row question

-- A table refuses what its rows refuse; a path without a row refuses nothing.
abbrev pub TableRefuses : {R Q : Type 0} → (R → Q → Type 0) → Tree R → Path → Q → Type 0
TableRefuses refuses tree path = RowRefuses refuses (row_at tree path)
