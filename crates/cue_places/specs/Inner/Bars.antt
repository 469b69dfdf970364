-- The first place that bars a path, by how many steps lead there.
use Rattle.std.specs.Prelude.{ℕ, Bool, take}
use Rattle.cue_lattice.specs.Path.{Path}
use Rattle.cue_lattice.specs.Question.{Refusals}
use Rattle.cue_row.specs.Row.{RowRefusesQuestion}
use Rattle.cue_row.specs.declared.parts.RowParts.{RowParts as Row}
use Rattle.cue_places.specs.Places.{IsFirstBar}
use Rattle.cue_places.specs.declared.bars.Bar.{Bar}

abbrev pub IsBarOf : Refusals → Path → Bar → Type 0
IsBarOf refuses path bar =
    IsFirstBar refuses path (record { path = take bar.depth path; no_value = bar.no_value; not_allowed = bar.not_allowed })

-- what a row refuses, at whatever path
abbrev pub at_row : Row → Refusals
at_row row path question = RowRefusesQuestion row question
