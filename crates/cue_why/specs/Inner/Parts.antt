-- What one source has at the paths that concern a place, as the code has it.
use Rattle.std.specs.Prelude.{◌≡◌, ◌↔◌, ◌⊎◌, List, [], ◌∷◌, ◌++◌, Some}
use Rattle.cue_lattice.specs.OneOf.{OneOf}
use Rattle.cue_lattice.specs.Path.{Step, label, index, Path}
use Rattle.cue_lattice.specs.Question.{Question}
use Rattle.cue_policies.specs.Patterns.{Concerns}
use Rattle.cue_policies.specs.View.{IsAlong, EndsInPattern, IsLevelInView}
use Rattle.cue_policies.specs.declared.kind.LayerKind.{LayerKind}
use Rattle.cue_row.specs.Made.{at_level}
use Rattle.cue_row.specs.Row as rows
use Rattle.cue_row.specs.declared.level.Level.TheVariants.{Optional}
use Rattle.cue_row.specs.declared.parts.RowParts.{RowParts as Row}
use Rattle.cue_table.specs.Refuses.{RowRefuses}
use Rattle.cue_table.specs.Tree.{Tree, branch_at, row_of, step_into}
use Rattle.cue_why.specs.declared.part.WrittenPart.{WrittenPart}

-- what is written at the one step concerns the other
abbrev pub IsStepAlong : LayerKind → Step → Step → Type 0
IsStepAlong kind (label own) (label l) = Concerns kind own l
IsStepAlong kind (index m) (index n) = m ≡ n
IsStepAlong kind own step = ⊥

abbrev pub IsIn : {X : Type 0} → X → List X → Type 0
IsIn x xs = OneOf (λ y. y ≡ x) xs

-- the list has just what the source wrote that concerns the place, and has there
abbrev pub AreParts : LayerKind → Tree Row → Path → List WrittenPart → Type 0
AreParts kind root place parts =
    (next : WrittenPart) → IsIn next parts
    ↔ (IsAlong kind next.written place × (branch_at root next.written ≡ Some next.branch))

-- the other part is what the one has one step below, at this step
abbrev pub IsOwnBelow : Step → WrittenPart → WrittenPart → Type 0
IsOwnBelow own part next =
    (next.written ≡ part.written ++ own ∷ []) × (step_into part.branch own ≡ Some next.branch)

-- or at one that concerns this
abbrev pub IsBelow : LayerKind → Step → WrittenPart → WrittenPart → Type 0
IsBelow kind step part next = (own : Step) × IsStepAlong kind own step × IsOwnBelow own part next

-- what a part refuses at its place, as it counts in the view
abbrev pub HoldsPart : LayerKind → WrittenPart → Question → Type 0
HoldsPart kind part question =
    RowRefuses rows.RowRefusesQuestion (row_of part.branch) question
    × ¬ (EndsInPattern kind part.written × IsLevelInView question)

-- a row as it counts there
abbrev pub IsHeldRow : LayerKind → Path → Row → Row → Type 0
IsHeldRow kind written row held =
    (EndsInPattern kind written × (held ≡ at_level Optional row))
    ⊎ ((¬ EndsInPattern kind written) × (held ≡ row))

-- a row refuses what it did, and what a part does
abbrev pub GainsPart : LayerKind → Row → WrittenPart → Row → Type 0
GainsPart kind old part new =
    (question : Question) → rows.RowRefusesQuestion new question
    ↔ (rows.RowRefusesQuestion old question ⊎ HoldsPart kind part question)
