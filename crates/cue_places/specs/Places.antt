-- What is found at a path of a configuration, by what the configuration refuses.
use Rattle.std.specs.Prelude.{◌≡◌, ◌≢◌, ◌↔◌, ◌⊎◌, IsTrue, [], ◌∷◌, ◌++◌}
use Rattle.cue_lattice.specs.Path.{Step, label, index, Path}
use Rattle.cue_lattice.specs.Question.{Question, Refusals, struct, list, length_at_most}
use Rattle.cue_policies.specs.View.{IsLevelInView}
use Rattle.cue_report.specs.Answers.{path_below, HasNoScalar, HasNoValue, IsNotAllowed}
use Rattle.cue_report.specs.declared.conflict.Conflict.{Conflict}
use Rattle.cue_row.specs.Row.{RowRefusesQuestion}
use Rattle.cue_table.specs.Refuses.{TableRefuses}
use Rattle.cue_places.specs.declared.lookup.Lookup.{Lookup}
use Rattle.cue_places.specs.declared.lookup.Lookup.TheVariants.{Absent, Barred, Root}

-- something is refused at the path or below it
abbrev pub IsKnownPlace : Refusals → Path → Type 0
IsKnownPlace refuses path =
    ¬ ((below : Path) (question : Question) → ¬ refuses (path ++ below) question)

-- A step from a place is declared: that of a label where something is refused at the label or below
-- it, and that of an index where no list is as short as it.
abbrev pub IsStepDeclared : Refusals → Path → Step → Type 0
IsStepDeclared refuses place (label text) = IsKnownPlace refuses (path_below place (label text))
IsStepDeclared refuses place (index n) = refuses place (length_at_most n)

-- A path is declared where each of its steps is. So the root is.
abbrev pub IsDeclaredPlace : Refusals → Path → Type 0
IsDeclaredPlace refuses path =
    (before after : Path) (step : Step) → path ≡ before ++ step ∷ after
    → IsStepDeclared refuses before step

-- no scalar, no struct and no list may be at the path
abbrev pub HasNoKind : Refusals → Path → Type 0
HasNoKind refuses path = HasNoScalar refuses path × refuses path struct × refuses path list

-- A place bars a path that goes further: its label is not allowed, or the path goes on and nothing
-- may be at the place.
abbrev pub IsBar : Refusals → Path → Path → Type 0
IsBar refuses place after =
    IsNotAllowed refuses place ⊎ ((after ≢ []) × HasNoKind refuses place)

-- no place of the path bars it
abbrev pub IsFreePlace : Refusals → Path → Type 0
IsFreePlace refuses path = (place after : Path) → path ≡ place ++ after → ¬ IsBar refuses place after

-- The conflict is at the first place that bars the path, and has the causes that a report has.
pub record IsFirstBar (refuses : Refusals) (path : Path) (conflict : Conflict) : Type 0 where
  pub after : Path
  pub leads : path ≡ conflict.path ++ after
  pub bars : IsBar refuses conflict.path after
  pub first : (place behind : Path) (step : Step) → conflict.path ≡ place ++ step ∷ behind
      → ¬ IsBar refuses place (step ∷ behind ++ after)
  pub no_value : IsTrue conflict.no_value ↔ HasNoValue refuses conflict.path
  pub not_allowed : IsTrue conflict.not_allowed ↔ IsNotAllowed refuses conflict.path

-- The one refuses just what the other does at the path and below it, but that the level of the path
-- itself plays no part.
abbrev pub IsRootAt : Refusals → Path → Refusals → Type 0
IsRootAt refuses path root =
    (below : Path) (question : Question)
    → root below question ↔ (refuses (path ++ below) question × ¬ ((below ≡ []) × IsLevelInView question))

-- What is found at a path: that it is not declared; that it is, and where it is barred; or the
-- place as a root of its own.
abbrev pub IsFoundPlace : Refusals → Path → Lookup → Type 0
IsFoundPlace refuses path Absent = ¬ IsDeclaredPlace refuses path
IsFoundPlace refuses path (Barred conflict) =
    IsDeclaredPlace refuses path × IsFirstBar refuses path conflict
IsFoundPlace refuses path (Root table) =
    IsDeclaredPlace refuses path × IsFreePlace refuses path
    × IsRootAt refuses path (TableRefuses RowRefusesQuestion table)
