-- What a row refuses.
use Rattle.std.specs.Prelude.{◌≡◌, ◌↔◌, ◌⊎◌, ◌<◌, false}
use Rattle.cue_lattice.specs.Question.{Question, may_be, usual, struct, list, allows, level_at_most}
use Rattle.cue_lattice.specs.Question.{length_at_most, length_at_least}
use Rattle.cue_scalars.specs.Scalars.{RefusesScalar, IsScalarSet}
use Rattle.cue_row.specs.declared.parts.RowParts.{RowParts as Row}
use Rattle.cue_row.specs.declared.question.Question as program
use Rattle.cue_row.specs.Levels.{level_of}
use Rattle.cue_row.specs.LabelSets.{RefusesLabel, AreLabels}
use Rattle.cue_row.specs.Lengths.{RefusesLength}
use Rattle.cue_row.specs.Questions.{question_of}

-- what a row refuses
abbrev pub RowRefusesQuestion : Row → Question → Type 0
RowRefusesQuestion row (may_be scalar) = RefusesScalar row.value scalar
RowRefusesQuestion row (usual scalar) = RefusesScalar row.usual scalar
RowRefusesQuestion row struct = row.struct_ok ≡ false
RowRefusesQuestion row list = row.list_ok ≡ false
RowRefusesQuestion row (allows label) = RefusesLabel row.labels label
RowRefusesQuestion row (level_at_most k) = k < level_of row.level
RowRefusesQuestion row (length_at_most n) = n < row.least
RowRefusesQuestion row (length_at_least n) = RefusesLength row.most n

-- what a row refuses of what the program asks
abbrev pub RefusesAsked : Row → program.Question → Type 0
RefusesAsked row question = RowRefusesQuestion row (question_of question)

-- sets and labels are kept in their one form
pub record IsRow (row : Row) : Type 0 where
  pub value : IsScalarSet row.value
  pub usual : IsScalarSet row.usual
  pub labels : AreLabels row.labels

-- the row refuses what one of the two others refuses
abbrev pub IsMetRow : Row → Row → Row → Type 0
IsMetRow a b met =
    (question : program.Question) → RefusesAsked met question ↔ (RefusesAsked a question ⊎ RefusesAsked b question)
