-- Beside `specs/Told.antt`: what private clauses and proofs alone cite.
use Rattle.std.specs.Prelude.{ℕ, List}
use Rattle.std.specs.Prelude.{Option, Some, None}
use Rattle.cue_lattice.specs.declared.refusal.Refusal.{Refusal}
use Rattle.cue_net.specs.Told.{AllRepliesAccept, IsFirstRefusal}

-- what the first refusal is, where there is one
abbrev pub IsFound : List (List ℕ) → Option (Refusal × ℕ) → Type 0
IsFound replies None = AllRepliesAccept replies
IsFound replies (Some found) = IsFirstRefusal replies found.0 found.1

-- the first of what was found before and what is found at this number
abbrev pub first_of : Option (Refusal × ℕ) → Option Refusal → ℕ → Option (Refusal × ℕ)
first_of (Some first) found number = Some first
first_of None (Some why) number = Some (why, number)
first_of None None number = None
