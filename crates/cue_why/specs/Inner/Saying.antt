-- Whether a part refuses something, as the code has it.
use Rattle.std.specs.Prelude.{◌≡◌, []}
use Rattle.cue_lattice.specs.Path.{Path}
use Rattle.cue_lattice.specs.Question.{Question}
use Rattle.cue_policies.specs.View.{EndsInPattern, IsLevelInView}
use Rattle.cue_policies.specs.declared.kind.LayerKind.{LayerKind}
use Rattle.cue_row.specs.Row.{RowRefusesQuestion}
use Rattle.cue_row.specs.declared.parts.RowParts.{RowParts as Row}
use Rattle.cue_table.specs.Refuses.{TableRefuses}
use Rattle.cue_table.specs.Tree.{Tree}
use Rattle.cue_why.specs.declared.part.WrittenPart.{WrittenPart}

-- what a part refuses at its path and below it; the level of a pattern plays no part
abbrev pub SaysFinding : LayerKind → WrittenPart → Path → Question → Type 0
SaysFinding kind part below question =
    TableRefuses RowRefusesQuestion part.branch below question
    × ¬ ((below ≡ []) × EndsInPattern kind part.written × IsLevelInView question)

abbrev pub RefusesAny : LayerKind → WrittenPart → Type 0
RefusesAny kind part =
    ¬ ((below : Path) (question : Question) → ¬ SaysFinding kind part below question)

-- a part with its path and its branch
abbrev pub pair_of : WrittenPart → Path × Tree Row
pair_of part = (part.written, part.branch)
