-- Entries, one behind the other.
use Rattle.std.specs.Prelude.{ℕ, List, [], ◌∷◌, ◌+◌, ◌++◌, length}
use Rattle.cue_journal.specs.Blocks.{block}

-- the blocks of a journal that has these entries
abbrev pub blocks : List (List ℕ) → List ℕ
blocks [] = []
blocks (entry ∷ entries) = block entry ++ blocks entries

-- how many bytes of memory they take: their own, and 128 for each
abbrev pub memory_of_pieces : List (List ℕ) → ℕ
memory_of_pieces [] = 0
memory_of_pieces (entry ∷ entries) = length entry + 128 + memory_of_pieces entries
