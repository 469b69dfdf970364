-- Where a pattern stands that keeps a policy from being well formed.
use Rattle.std.specs.Prelude.{◌≡◌, ◌⊎◌, ℕ, List, [], ◌∷◌, ◌++◌, map}
use Rattle.cue_lattice.specs.Path.{Step, Path, label, index}
use Rattle.cue_lattice.specs.Question.{Question, Refusals, allows}
use Rattle.cue_policies.specs.Patterns.{IsPattern}
use Rattle.cue_policies.specs.WellFormed.{HasPatternInList}
use Rattle.cue_table.specs.Slots.{Slot, at, from}
use Rattle.cue_table.specs.SlotsOfCode.{slot_of}
use Rattle.cue_table.specs.declared.slot.Slot as code

-- a step, or that to the first element of a rest
abbrev pub first_of_slot : Slot → Step
first_of_slot (at step) = step
first_of_slot (from n) = index n

-- the path through the first element of each rest
abbrev pub first_steps : List code.Slot → Path
first_steps = map (λ slot. first_of_slot (slot_of slot))

-- The last label of the path is a pattern below an element of a list, and something is refused there
-- or below; or a set of labels at the place above leaves out some label, but not this pattern.
abbrev pub IsMisplaced : Refusals → Path → Type 0
IsMisplaced refuses path =
    (front : Path) × (pattern : List ℕ) × (path ≡ front ++ label pattern ∷ []) × IsPattern pattern
    × ((HasPatternInList path
    × ¬ ((below : Path) (question : Question) → ¬ refuses (path ++ below) question))
    ⊎ ((l : List ℕ) × refuses front (allows l) × ¬ refuses front (allows pattern)))
