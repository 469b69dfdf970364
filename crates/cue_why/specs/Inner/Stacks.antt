-- Sources with what each refuses along a path and what those behind it refuse.
use Rattle.std.specs.Prelude.{List, [], ◌∷◌}
use Rattle.cue_lattice.specs.OneOf.{OneOf}
use Rattle.cue_lattice.specs.Path.{Path}
use Rattle.cue_lattice.specs.Question.{Refusals}
use Rattle.cue_row.specs.Row.{RowRefusesQuestion}
use Rattle.cue_row.specs.declared.parts.RowParts.{RowParts as Row}
use Rattle.cue_policies.specs.Tables.{table_part}
use Rattle.cue_policies.specs.View.{ViewedPart, PartRefuses}
use Rattle.cue_why.specs.Inner.Findings.{Meets}
use Rattle.cue_why.specs.Inner.Trails.{IsTrail}
use Rattle.cue_why.specs.declared.finding.Finding.{Finding}
use Rattle.cue_why.specs.declared.least.Traced.{Traced}
use Rattle.cue_why.specs.declared.source.LayerSource.{LayerSource}

-- the source as a part of a view
abbrev pub source_part : LayerSource → ViewedPart
source_part source = table_part (source.kind, source.table.now)

-- what one of the sources refuses, whatever is declared
abbrev pub LineRefuses : List LayerSource → Refusals
LineRefuses sources path question =
    OneOf (λ source. PartRefuses (source_part source) path question) sources

-- the rows are what the sources refuse along a path
abbrev pub IsTrailOf : Path → List LayerSource → List Row → Type 0
IsTrailOf path sources rows = IsTrail RowRefusesQuestion (LineRefuses sources) path rows

-- the sources of a stack, of which the last is the first, in front of others
abbrev pub ahead_of : List LayerSource → List Traced → List LayerSource
ahead_of behind [] = behind
ahead_of behind (one ∷ stack) = ahead_of (one.source ∷ behind) stack

-- each has its trail, and that of all behind it
abbrev pub IsStack : Path → List LayerSource → List Traced → Type 0
IsStack path behind [] = Unit {0}
IsStack path behind (one ∷ stack) =
    IsTrailOf path behind one.behind.items × IsTrailOf path (one.source ∷ []) one.trail.items
    × IsStack path (one.source ∷ behind) stack

-- some sources refuse along the path what has to be
abbrev pub Suffice : Finding → Path → List LayerSource → Type 0
Suffice finding path sources = Meets finding (LineRefuses sources) path
