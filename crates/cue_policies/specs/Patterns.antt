-- Which labels of a policy are patterns, and which labels a pattern fits.
use Rattle.std.specs.Prelude.{◌≡◌, ◌⊎◌, ℕ, List, [], ◌∷◌, ◌++◌}
use Rattle.cue_policies.specs.declared.kind.LayerKind.{LayerKind}
use Rattle.cue_policies.specs.declared.kind.LayerKind.TheVariants.{Layer, Policy}

-- '*'
abbrev pub star : ℕ
star = 42

-- the label is a stem with a star behind it
abbrev pub IsPattern : List ℕ → Type 0
IsPattern label = (stem : List ℕ) × (label ≡ stem ++ star ∷ [])

-- the label begins with the stem of the pattern
abbrev pub MatchesPattern : List ℕ → List ℕ → Type 0
MatchesPattern pattern label =
    (stem : List ℕ) × (more : List ℕ) × (pattern ≡ stem ++ star ∷ []) × (label ≡ stem ++ more)

-- Policies alone have patterns: in a layer proper a label that ends in a star is one as any other.
abbrev pub IsPatternOf : LayerKind → List ℕ → Type 0
IsPatternOf Layer label = ⊥
IsPatternOf Policy label = IsPattern label

-- what is written at the one label concerns the other by its name
abbrev pub IsNamedLabel : LayerKind → List ℕ → List ℕ → Type 0
IsNamedLabel kind own label = (own ≡ label) × ¬ IsPatternOf kind own

-- or by a pattern that fits
abbrev pub IsPatternBound : LayerKind → List ℕ → List ℕ → Type 0
IsPatternBound kind own label = IsPatternOf kind own × MatchesPattern own label

abbrev pub Concerns : LayerKind → List ℕ → List ℕ → Type 0
Concerns kind own label = IsNamedLabel kind own label ⊎ IsPatternBound kind own label
