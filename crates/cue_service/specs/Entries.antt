-- The entries of journals, as pieces.
use Rattle.std.specs.Prelude.{ℕ, zero, suc, List, [], ◌∷◌, map}
use Rattle.std.specs.List.{AllByRecursion}
use Rattle.cue_lattice.specs.Question.{SameAnswers}
use Rattle.cue_lattice.specs.World.{Piece, text, state, pieces_refuse}
use Rattle.cue_replica.specs.Accepted.{IsAcceptable}
use Rattle.cue_replica.specs.Language.{language}

-- 0 and then a text, or another number and then state bytes
abbrev pub piece_of_entry : List ℕ → Piece
piece_of_entry [] = text []
piece_of_entry (zero ∷ bytes) = text bytes
piece_of_entry (suc n ∷ bytes) = state bytes

abbrev pub entry_of : Piece → List ℕ
entry_of (text bytes) = 0 ∷ bytes
entry_of (state bytes) = 1 ∷ bytes

abbrev pub pieces_of : List (List ℕ) → List Piece
pieces_of entries = map piece_of_entry entries

-- these pieces together refuse what those do
abbrev pub AreEntriesAlike : List Piece → List Piece → Type 0
AreEntriesAlike some others = SameAnswers (pieces_refuse language some) (pieces_refuse language others)

-- each entry is a piece that a site accepts, and together they say what these pieces do
pub record StandFor (entries : List (List ℕ)) (pieces : List Piece) : Type 0 where
  pub acceptable : AllByRecursion IsAcceptable (pieces_of entries)
  pub alike : AreEntriesAlike (pieces_of entries) pieces
