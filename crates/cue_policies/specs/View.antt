-- The view of layers and policies: what all of them refuse together, where a pattern binds each
-- label that it fits and that one of them declares.
use Rattle.std.specs.Prelude.{◌≡◌, ℕ, List, [], ◌∷◌, ◌++◌}
use Rattle.cue_lattice.specs.OneOf.{OneOf}
use Rattle.cue_lattice.specs.Path.{Step, label, index, Path}
use Rattle.cue_lattice.specs.Question.{Question, Refusals, level_at_most}
use Rattle.cue_policies.specs.Patterns.{IsPatternOf, Concerns}
use Rattle.cue_policies.specs.declared.kind.LayerKind.{LayerKind}

-- a layer or a policy, by its kind and what it refuses
pub record ViewedPart : Type 1 where
  pub kind : LayerKind
  pub refuses : Refusals

-- What is written at the one path concerns the other: step by step both have one index, or the
-- label of the one concerns that of the other.
abbrev pub IsAlong : LayerKind → Path → Path → Type 0
IsAlong kind [] [] = Unit {0}
IsAlong kind (label own ∷ written) (label l ∷ path) = Concerns kind own l × IsAlong kind written path
IsAlong kind (index m ∷ written) (index n ∷ path) = (m ≡ n) × IsAlong kind written path
IsAlong kind written path = ⊥

-- the step is a pattern
abbrev pub IsPatternStep : LayerKind → Step → Type 0
IsPatternStep kind (label own) = IsPatternOf kind own
IsPatternStep kind (index n) = ⊥

-- the last step of the path is a pattern
abbrev pub EndsInPattern : LayerKind → Path → Type 0
EndsInPattern kind [] = ⊥
EndsInPattern kind (step ∷ []) = IsPatternStep kind step
EndsInPattern kind (step ∷ next ∷ path) = EndsInPattern kind (next ∷ path)

-- the question asks for a level
abbrev pub IsLevelInView : Question → Type 0
IsLevelInView (level_at_most k) = Unit {0}
IsLevelInView question = ⊥

-- The part refuses the question at a path that it wrote and that concerns this one. A pattern
-- itself asks for no field: its own level plays no part.
abbrev pub PartRefuses : ViewedPart → Path → Question → Type 0
PartRefuses part path question =
    (written : Path) × IsAlong part.kind written path × part.refuses written question
    × ¬ (EndsInPattern part.kind written × IsLevelInView question)

-- the part has a branch at this label, which is no pattern, at a path that concerns the place
abbrev pub DeclaresAt : ViewedPart → Path → List ℕ → Type 0
DeclaresAt part place l =
    (written : Path) × (below : Path) × (question : Question) × IsAlong part.kind written place
    × (¬ IsPatternOf part.kind l) × part.refuses (written ++ label l ∷ below) question

-- each label of the path is one that some part declares at its place
abbrev pub IsDeclaredInView : {X : Type 0} → (X → ViewedPart) → List X → Path → Type 0
IsDeclaredInView part members path =
    (place : Path) (l : List ℕ) (further : Path) → path ≡ place ++ label l ∷ further
    → OneOf (λ member. DeclaresAt (part member) place l) members

-- The view refuses what one of its parts refuses, at the paths that are declared.
abbrev pub ViewRefuses : {X : Type 0} → (X → ViewedPart) → List X → Refusals
ViewRefuses part members path question =
    IsDeclaredInView part members path × OneOf (λ member. PartRefuses (part member) path question) members
