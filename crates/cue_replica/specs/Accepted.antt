-- A site, by what it has accepted.
use Rattle.std.specs.Prelude.{ℕ, List, map}
use Rattle.std.specs.List.{AllByRecursion}
use Rattle.cue_lattice.specs.World.{Piece, IsUnified, text, state}
pub use Rattle.cue_lattice.specs.Limits.{text_limit}
pub use Rattle.cue_lattice.specs.Refusal.{number_of, name_at, refusal_at, memory}
use Rattle.cue_replica.specs.Language.{Table, language}

-- The texts are of the language, and the table is valid, and the unification of exactly these.
abbrev pub IsOfTexts : Table → List (List ℕ) → Type 0
IsOfTexts table texts =
    AllByRecursion language.IsLegal texts × IsUnified language table (map text texts)

-- a piece that a site accepts, memory aside
abbrev pub IsAcceptable : Piece → Type 0
IsAcceptable (text t) = language.IsLegal t
IsAcceptable (state b) = language.IsState b

-- The pieces are acceptable, and the table is valid, and the unification of exactly these.
abbrev pub IsOfPieces : Table → List Piece → Type 0
IsOfPieces table pieces = AllByRecursion IsAcceptable pieces × IsUnified language table pieces
