-- Beside `specs/Accepted.antt`: what private clauses and proofs alone cite.
use Rattle.std.specs.Prelude.{ℕ, List, [], ◌∷◌}
use Rattle.cue_lattice.specs.World.{IsUnified, state}
use Rattle.cue_replica.specs.Language.{Table, language}

-- The bytes are those of a state, and the table is valid, and has the answers of these bytes.
abbrev pub IsOfState : Table → List ℕ → Type 0
IsOfState table bytes = language.IsState bytes × IsUnified language table (state bytes ∷ [])
