-- Which policies are well formed: those with no pattern below an element of a list, and with none
-- in a set of labels. Unification keeps both.
use Rattle.std.specs.Prelude.{◌⊎◌, ℕ, List, [], ◌∷◌}
use Rattle.cue_lattice.specs.Path.{label, index, Path}
use Rattle.cue_lattice.specs.Question.{Question, Refusals, allows}
use Rattle.cue_policies.specs.Patterns.{IsPattern}

-- a label of the path is a pattern
abbrev pub HasPattern : Path → Type 0
HasPattern [] = ⊥
HasPattern (label l ∷ path) = IsPattern l ⊎ HasPattern path
HasPattern (index n ∷ path) = HasPattern path

-- a label behind an index is one
abbrev pub HasPatternInList : Path → Type 0
HasPatternInList [] = ⊥
HasPatternInList (label l ∷ path) = HasPatternInList path
HasPatternInList (index n ∷ path) = HasPattern path

pub record IsWellFormed (refuses : Refusals) : Type 0 where
  -- nothing is refused at a pattern below an element of a list
  pub lists : (path : Path) (question : Question) → refuses path question
      → ¬ HasPatternInList path
  -- a place that leaves out some label leaves out all patterns
  pub sets : (path : Path) (l pattern : List ℕ) → refuses path (allows l) → IsPattern pattern
      → refuses path (allows pattern)

-- nothing is refused at a path with a pattern
abbrev pub IsPlain : Refusals → Type 0
IsPlain refuses = (path : Path) (question : Question) → refuses path question → ¬ HasPattern path
