-- The list of a table's rows, as far as it is told.
use Rattle.std.specs.Prelude.{◌≡◌, ◌≢◌, Bool, false, true, List, [], ◌∷◌, ◌++◌, Option, Some, None}
use Rattle.cue_table.specs.Form.{IsTable}
use Rattle.cue_table.specs.Slots.{Place, rows_of}
use Rattle.cue_table.specs.Tree.{Tree}

-- no table's rows begin with these
abbrev pub BeginsNoTable : {R Q : Type 0} → (R → Q → Type 0) → (R → Type 0) → List (Place × R)
    → Type 0
BeginsNoTable {R} refuses is_value rows =
    (table : Tree R) (more : List (Place × R)) → IsTable refuses is_value table
    → rows_of table ≢ rows ++ more

-- A row is put behind the others, or no table's rows begin so and the draft is refused. One that was
-- refused refuses each further row.
abbrev pub Appends : {R Q : Type 0} → (R → Q → Type 0) → (R → Type 0)
    → Option (List (Place × R)) → Place → R → Option (List (Place × R)) → Bool → Type 0
Appends refuses is_value (Some old) place row new true = new ≡ Some (old ++ (place, row) ∷ [])
Appends refuses is_value (Some old) place row new false =
    (new ≡ None) × BeginsNoTable refuses is_value (old ++ (place, row) ∷ [])
Appends refuses is_value None place row new true = ⊥
Appends refuses is_value None place row new false = new ≡ None
