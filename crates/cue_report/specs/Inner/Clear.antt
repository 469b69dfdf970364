-- Where nothing conflicts, told place by place.
use Rattle.std.specs.Prelude.{ℕ, List}
use Rattle.cue_lattice.specs.Path.{label, Path}
use Rattle.cue_lattice.specs.Question.{Refusals, allows}
use Rattle.cue_report.specs.Answers.{IsStepDemanded, IsDemanded, HasNoValue}

-- a value may stand, and each label that is demanded below is allowed
abbrev pub IsClearAt : Refusals → Path → Type 0
IsClearAt refuses path =
    (¬ HasNoValue refuses path)
    × ((l : List ℕ) → IsStepDemanded refuses path (label l) → ¬ refuses path (allows l))

-- so at each demanded path
abbrev pub IsClear : Refusals → Type 0
IsClear refuses = (path : Path) → IsDemanded refuses path → IsClearAt refuses path
