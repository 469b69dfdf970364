-- What is printed of a site's export.
use Rattle.std.specs.Prelude.{ℕ, List, All}
use Rattle.cue_replica.specs.declared.question.SiteQuestion.TheVariants as questions
use Rattle.cue_replica.specs.declared.answers.Answer.{Answer}
use Rattle.cue_replica.specs.Answers.{IsShown}
use Rattle.cue_replica.specs.Language.{Table, empty_site}
use Rattle.cue_wire.specs.Frames.{IsBody}
use Rattle.cue_wire.specs.Serving.{ServesAll}

-- the export of a site with this table, as it is printed
abbrev pub IsPrintedExport : Table → Answer → Type 0
IsPrintedExport table answer =
    IsShown questions.Export table answer.bytes.items answer.status

-- Frames of some requests were served, one after the other, and turned the one table into the
-- other.
abbrev pub ServesSome : Table → Table → Type 0
ServesSome before after =
    (bodies : List (List ℕ)) × (replies : List ℕ) × All IsBody bodies
    × ServesAll bodies before after replies

-- the export of a new site that has served some requests
abbrev pub IsServedExport : Answer → Type 0
IsServedExport answer =
    (table : Table) × ServesSome empty_site table × IsPrintedExport table answer
