-- What unification makes of two tables.
use Rattle.std.specs.Prelude.{◌≡◌, ◌↔◌, ◌⊎◌, ◌≤◌, ◌++◌, ℕ, ◌∷◌}
use Rattle.cue_lattice.specs.Path.{Path, index}
use Rattle.cue_table.specs.Tree.{Tree}
use Rattle.cue_table.specs.Refuses.{TableRefuses}

-- the third refuses exactly what one of the others refuses
abbrev pub IsUnion : {Q : Type 0} → (Q → Type 0) → (Q → Type 0) → (Q → Type 0) → Type 0
IsUnion {Q} a b met = (question : Q) → met question ↔ (a question ⊎ b question)

-- the met table refuses exactly what one of both does
abbrev pub IsMet : {R Q : Type 0} → (R → Q → Type 0) → Tree R → Tree R → Tree R → Type 0
IsMet refuses a b met =
    (path : Path)
    → IsUnion (TableRefuses refuses a path) (TableRefuses refuses b path)
    (TableRefuses refuses met path)

-- the new table refuses what the old one did, and at the path what the row refuses
abbrev pub IsAdded : {R Q : Type 0} → (R → Q → Type 0) → Tree R → Path → R → Tree R → Type 0
IsAdded {R} {Q} refuses old path row new =
    (at : Path) (question : Q)
    → TableRefuses refuses new at question
    ↔ (TableRefuses refuses old at question ⊎ ((at ≡ path) × refuses row question))

-- below the list at a path, in an element from an index on, what is given for these elements
-- refuses the question
abbrev pub RestOfMeetRefuses : {R Q : Type 0} → (R → Q → Type 0) → Path → ℕ → Tree R → Path → Q → Type 0
RestOfMeetRefuses refuses list first rest at question =
    (i : ℕ) × (path : Path) × (at ≡ list ++ index i ∷ path) × (first ≤ i)
    × TableRefuses refuses rest path question

-- The new table refuses what the old one did, and in each element of the list at a path, from an
-- index on, what the table that is given for them refuses.
abbrev pub IsRestAdded : {R Q : Type 0} → (R → Q → Type 0) → Tree R → Path → ℕ → Tree R → Tree R
    → Type 0
IsRestAdded {R} {Q} refuses old list first rest new =
    (at : Path) (question : Q)
    → TableRefuses refuses new at question
    ↔ (TableRefuses refuses old at question ⊎ RestOfMeetRefuses refuses list first rest at question)
