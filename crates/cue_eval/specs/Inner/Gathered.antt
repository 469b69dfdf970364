-- What is gathered of a literal's parts: tables at steps, and a row of the literal's own.
use Rattle.std.specs.Prelude.{◌≡◌, ◌+◌, List, [], ◌∷◌, Option, ℕ}
use Rattle.cue_lattice.specs.OneOf.{OneOf}
use Rattle.cue_lattice.specs.Path as paths
use Rattle.cue_lattice.specs.Path.{Path, label, index}
use Rattle.cue_lattice.specs.Question.{Question, allows, Refusals}
use Rattle.cue_row.specs.LabelSets.{RefusesLabel}
use Rattle.cue_row.specs.Row.{RowRefusesQuestion}
use Rattle.cue_row.specs.Steps.{step_of}
use Rattle.cue_row.specs.declared.parts.RowParts.{RowParts as Row}
use Rattle.cue_row.specs.declared.step.Step.{Step}
use Rattle.cue_table.specs.Refuses.{TableRefuses}
use Rattle.cue_table.specs.Tree.{Tree}
use Rattle.cue_scope.specs.Core.{Elements}
use Rattle.cue_eval.specs.Refuses.{ElementRefuses}

-- what a table of rows refuses
abbrev pub TreeRefusals : Tree Row → Refusals
TreeRefusals table = TableRefuses RowRefusesQuestion table

-- the labels that a set leaves out
abbrev pub LabelsRefuse : Option (List (List ℕ)) → Question → Type 0
LabelsRefuse labels (allows l) = RefusesLabel labels l
LabelsRefuse labels _ = ⊥

-- at a step and then a path: what the tables refuse that are given for this step
abbrev pub GivenRefuse : List (Step × Tree Row) → paths.Step → Path → Question → Type 0
GivenRefuse given step path question =
    OneOf (λ one. (step_of one.0 ≡ step) × TreeRefusals one.1 path question) given

-- a literal: at its own place what it refuses itself, and below it what is given
abbrev pub LiteralAnswers : (Question → Type 0) → List (Step × Tree Row) → Refusals
LiteralAnswers own given [] question = own question
LiteralAnswers own given (step ∷ path) question = GivenRefuse given step path question

-- below the elements from an index on: what the further elements refuse
abbrev pub FurtherRefuse : ℕ → Elements → Refusals
FurtherRefuse first es [] question = ⊥
FurtherRefuse first es (label l ∷ path) question = ⊥
FurtherRefuse first es (index i ∷ path) question =
    (k : ℕ) × (first + k ≡ i) × ElementRefuses es k path question
