-- A site, by the table that it holds.
use Rattle.std.specs.Prelude.{◌↔◌, ◌⊎◌}
use Rattle.cue_lattice.specs.Path.{Path}
use Rattle.cue_lattice.specs.Question.{Question, Refusals}
use Rattle.cue_replica.specs.Language.{Table, language}

-- the new table refuses exactly what the old one did and what was added
abbrev pub AddsRefusals : Table → Refusals → Table → Type 0
AddsRefusals old added new =
    (path : Path) (question : Question)
    → language.table_refuses new path question
    ↔ (language.table_refuses old path question ⊎ added path question)
