-- Beside `specs/Kept.antt`: what private clauses and proofs alone cite.
use Rattle.std.specs.Prelude.{◌≡◌, max}
use Rattle.cue_row.specs.declared.level.Level.{Level}
use Rattle.cue_row.specs.declared.small.Small.{Small}
use Rattle.cue_row.specs.Levels.{level_of}
use Rattle.cue_row.specs.Row.{IsMetRow}
use Rattle.cue_row.specs.Kept.{small_parts}

-- The third is the unification of the two others: at places of any levels it refuses what one of
-- the two refuses, and its level is the greater one.
abbrev pub IsMetSmall : Small → Small → Small → Type 0
IsMetSmall left right met =
    (a b c : Level) → level_of c ≡ max (level_of a) (level_of b)
    → IsMetRow (small_parts a left) (small_parts b right) (small_parts c met)
