-- What parts refuse one step further, and paths without patterns.
use Rattle.std.specs.Prelude.{◌⊎◌, ℕ, List, [], ◌∷◌}
use Rattle.cue_lattice.specs.Meets.{at_label, at_index}
use Rattle.cue_lattice.specs.Path.{label, index, Path}
use Rattle.cue_lattice.specs.Question.{Refusals}
use Rattle.cue_policies.specs.Patterns.{IsPatternOf}
use Rattle.cue_policies.specs.View.{ViewedPart, IsLevelInView}
use Rattle.cue_policies.specs.declared.kind.LayerKind.{LayerKind}

-- what is refused but for a level of the root
abbrev pub Loose : Refusals → Refusals
Loose refuses [] question = refuses [] question × ¬ IsLevelInView question
Loose refuses (step ∷ path) question = refuses (step ∷ path) question

-- what a part refuses below a label that is no pattern, below one that is, and below an index
abbrev pub below_name : ViewedPart → List ℕ → ViewedPart
below_name part own = record { kind = part.kind; refuses = at_label part.refuses own }

abbrev pub below_pattern : ViewedPart → List ℕ → ViewedPart
below_pattern part own = record { kind = part.kind; refuses = Loose (at_label part.refuses own) }

abbrev pub below_index : ViewedPart → ℕ → ViewedPart
below_index part i = record { kind = part.kind; refuses = at_index part.refuses i }

-- a label of the path is a pattern
abbrev pub HasPatternOf : LayerKind → Path → Type 0
HasPatternOf kind [] = ⊥
HasPatternOf kind (label l ∷ path) = IsPatternOf kind l ⊎ HasPatternOf kind path
HasPatternOf kind (index n ∷ path) = HasPatternOf kind path
