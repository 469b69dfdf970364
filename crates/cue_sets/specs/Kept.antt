-- How the pieces of a set of integers are kept. No public clause cites this module.
use Rattle.std.specs.Prelude.{List, [], ◌∷◌, ℤ}
use Rattle.cue_sets.specs.declared.kept.PieceList.{PieceList}
use Rattle.cue_sets.specs.declared.kept.PieceList.TheVariants.{One, Many}

-- the pieces that are kept, in order
abbrev pub pieces_of_set : PieceList → List (ℤ × ℤ)
pieces_of_set (One piece) = piece ∷ []
pieces_of_set (Many pieces) = pieces.items
