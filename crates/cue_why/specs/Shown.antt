-- The parts of a layer or a policy that are shown for a path.
use Rattle.std.specs.Prelude.{◌≡◌, ◌≢◌, ◌↔◌, List, [], ◌++◌, Some}
use Rattle.cue_lattice.specs.OneOf.{OneOf}
use Rattle.cue_lattice.specs.Path.{Path}
use Rattle.cue_lattice.specs.Question.{Question, Refusals}
use Rattle.cue_policies.specs.View.{IsAlong, EndsInPattern, IsLevelInView}
use Rattle.cue_policies.specs.declared.kind.LayerKind.{LayerKind}
use Rattle.cue_row.specs.Row.{RowRefusesQuestion}
use Rattle.cue_row.specs.declared.parts.RowParts.{RowParts as Row}
use Rattle.cue_table.specs.Refuses.{TableRefuses}
use Rattle.cue_table.specs.Tree.{Tree, branch_at}

-- what a table refuses at a path as it is written, and below it; the level of a pattern plays no
-- part
abbrev pub ShownPartRefuses : LayerKind → Tree Row → Path → Refusals
ShownPartRefuses kind table written below question =
    TableRefuses RowRefusesQuestion table (written ++ below) question
    × ¬ ((below ≡ []) × EndsInPattern kind written × IsLevelInView question)

-- a part for a place: what is written concerns the place, and refuses something
abbrev pub PathHasPart : LayerKind → Tree Row → Path → Path → Type 0
PathHasPart kind table place written =
    IsAlong kind written place
    × ¬ ((below : Path) (question : Question) → ¬ ShownPartRefuses kind table written below question)

-- The parts, each with its path and its branch, are all that there are for a beginning of the path,
-- and for longer beginnings there are none.
pub record AreShown (kind : LayerKind) (table : Tree Row) (path : Path)
    (parts : List (Path × Tree Row)) : Type 0 where
  pub place : Path
  pub after : Path
  pub whole : path ≡ place ++ after
  pub paths : (written : Path)
      → PathHasPart kind table place written ↔ OneOf (λ part. part.0 ≡ written) parts
  pub branches : (part : Path × Tree Row) → OneOf (λ other. other ≡ part) parts
      → branch_at table part.0 ≡ Some part.1
  pub longest : (more rest : Path) → after ≡ more ++ rest → more ≢ []
      → (written : Path) → ¬ PathHasPart kind table (place ++ more) written
