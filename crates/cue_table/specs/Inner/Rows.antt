-- Beside `specs/Rows.antt`: what private clauses and proofs alone cite.
use Rattle.std.specs.Prelude.{◌++◌}
use Rattle.cue_table.specs.Slots.{Place}

-- a row, its place as it is beyond another place
abbrev pub row_beyond : {R : Type 0} → Place → Place × R → Place × R
row_beyond place row = (place ++ row.0, row.1)
