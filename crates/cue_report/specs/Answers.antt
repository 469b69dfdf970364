-- What is demanded of a configuration and what is in the way of its export, told by what is refused
-- at each path.
use Rattle.std.specs.Prelude.{◌≡◌, ◌⊎◌, ℕ, List, [], ◌∷◌, ◌++◌}
use Rattle.cue_lattice.specs.declared.scalar.Scalar.{Scalar}
use Rattle.cue_lattice.specs.Path.{Step, label, index, Path}
use Rattle.cue_lattice.specs.Question.{Refusals, may_be, struct, list, allows, level_at_most}
use Rattle.cue_lattice.specs.Question.{length_at_most, length_at_least}
use Rattle.cue_lattice.specs.Scalar.{IsScalar}

-- the path one step further
abbrev pub path_below : Path → Step → Path
path_below path step = path ++ step ∷ []

-- A step from a place is demanded: that of a label where the level below may not be 0, and that of
-- an index where no list is as short as it.
abbrev pub IsStepDemanded : Refusals → Path → Step → Type 0
IsStepDemanded refuses path (label text) = refuses (path_below path (label text)) (level_at_most 0)
IsStepDemanded refuses path (index n) = refuses path (length_at_most n)

-- A path is demanded where each of its steps is. So the root is.
abbrev pub IsDemanded : Refusals → Path → Type 0
IsDemanded refuses path =
    (before after : Path) (step : Step) → path ≡ before ++ step ∷ after
    → IsStepDemanded refuses before step

-- no scalar of the language may stand
abbrev pub HasNoScalar : Refusals → Path → Type 0
HasNoScalar refuses path = (scalar : Scalar) → IsScalar scalar → refuses path (may_be scalar)

-- each length is below the least one or above the greatest
abbrev pub HasNoLength : Refusals → Path → Type 0
HasNoLength refuses path =
    (n : ℕ) → refuses path (length_at_most n) ⊎ refuses path (length_at_least n)

-- No value may stand: no scalar, struct or list; or a list may, but of no length.
abbrev pub HasNoValue : Refusals → Path → Type 0
HasNoValue refuses path =
    (HasNoScalar refuses path × refuses path struct × refuses path list)
    ⊎ ((¬ refuses path list) × HasNoLength refuses path)

-- the place above does not allow the label at which the path ends
abbrev pub IsNotAllowed : Refusals → Path → Type 0
IsNotAllowed refuses path =
    (above : Path) × (text : List ℕ) × (path ≡ path_below above (label text))
    × refuses above (allows text)
