-- The lists of a report.
use Rattle.std.specs.Prelude.{◌≡◌, ◌↔◌, List, [], ◌∷◌, ◌||◌, IsTrue}
use Rattle.std.specs.List.{AllByRecursion}
use Rattle.std.specs.declared.cmp.Ordering.TheVariants.{Less}
use Rattle.cue_lattice.specs.OneOf.{OneOf}
use Rattle.cue_lattice.specs.Path.{Path, path_cmp}
use Rattle.cue_lattice.specs.Question.{Refusals}
use Rattle.cue_report.specs.Answers.{IsDemanded, HasNoValue, IsNotAllowed}
use Rattle.cue_report.specs.declared.conflict.Conflict.{Conflict}

-- each path is before all later ones
abbrev pub IsRising : {X : Type 0} → (X → Path) → List X → Type 0
IsRising path [] = Unit {0}
IsRising path (x ∷ xs) =
    AllByRecursion (λ later. path_cmp (path x) (path later) ≡ Less) xs × IsRising path xs

-- The list has exactly those of which P holds, each once, in the order of their paths.
pub record Lists {X : Type 0} (path : X → Path) (P : X → Type 0) (xs : List X) : Type 0 where
  pub sound : AllByRecursion P xs
  pub complete : (x : X) → P x → OneOf (λ y. y ≡ x) xs
  pub rising : IsRising path xs

-- what the conflict says of its path is so: this is demanded, and one of both causes holds there,
-- or both
pub record IsConflict (refuses : Refusals) (conflict : Conflict) : Type 0 where
  pub demanded : IsDemanded refuses conflict.path
  pub no_value : IsTrue conflict.no_value ↔ HasNoValue refuses conflict.path
  pub not_allowed : IsTrue conflict.not_allowed ↔ IsNotAllowed refuses conflict.path
  pub cause : IsTrue (conflict.no_value || conflict.not_allowed)

-- all conflicts, in the order of their paths
abbrev pub AreConflicts : Refusals → List Conflict → Type 0
AreConflicts refuses = Lists (λ conflict. conflict.path) (IsConflict refuses)
