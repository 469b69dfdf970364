-- The pieces that a site accepted in one run, as entries. The oldest are given up, and the others
-- kept.
use Rattle.std.specs.Prelude.{◌≡◌, ◌⊎◌, ◌+◌, ◌-◌, ◌≤◌, ◌<◌, ℕ, List, length, drop}
use Rattle.cue_journal.specs.Lists.{memory_of_pieces}

pub record Listed : Type 0 where
  pub run : ℕ
  pub given_up : ℕ
  pub kept : List (List ℕ)

-- how many were accepted
abbrev pub next_of : Listed → ℕ
next_of pieces = pieces.given_up + length pieces.kept

-- they are just the entries of this run
pub record IsListOfPieces (entries : List (List ℕ)) (pieces : Listed) : Type 0 where
  pub within : pieces.given_up ≤ length entries
  pub kept : pieces.kept ≡ drop pieces.given_up entries

-- all behind the first so many of a run are kept
pub record KeepsPieces (pieces : Listed) (run count : ℕ) : Type 0 where
  pub same_run : run ≡ pieces.run
  pub not_given_up : pieces.given_up ≤ count
  pub within : count ≤ next_of pieces

-- those behind the first so many
abbrev pub behind_of : Listed → ℕ → List (List ℕ)
behind_of pieces count = drop (count - pieces.given_up) pieces.kept

-- more of the oldest are given up
abbrev pub GivesUp : Listed → Listed → Type 0
GivesUp old new =
    (more : ℕ) × (more ≤ length old.kept)
    × (new ≡ record { run = old.run; given_up = old.given_up + more; kept = drop more old.kept })

-- as few as leave so many bytes at most: with one less there would be more
abbrev pub GivesUpBeyond : ℕ → Listed → Listed → Type 0
GivesUpBeyond most old new =
    (more : ℕ) × (more ≤ length old.kept)
    × (new ≡ record { run = old.run; given_up = old.given_up + more; kept = drop more old.kept })
    × ((more ≡ 0) ⊎ (most < memory_of_pieces (drop (more - 1) old.kept)))
