-- Where a walk over a policy finds a pattern that may not be there.
use Rattle.std.specs.Prelude.{◌≡◌, ◌⊎◌, ◌↔◌, ◌≤◌, ℕ, Bool, true, false, List, [], ◌∷◌, ◌++◌, reverse, Option, Some, None}
use Rattle.cue_lattice.specs.Path.{Step, Path, label, index}
use Rattle.cue_lattice.specs.Question.{Question, allows}
use Rattle.cue_row.specs.Row.{RefusesAsked, IsRow}
use Rattle.cue_row.specs.declared.parts.RowParts.{RowParts as Row}
use Rattle.cue_table.specs.Form.{AreBranches, IsRowKept}
use Rattle.cue_table.specs.Size.{children_size}
use Rattle.cue_table.specs.Spans.{Span, branches_of_spans}
use Rattle.cue_table.specs.Tree.{Tree, Children, find}
use Rattle.cue_policies.specs.Patterns.{IsPattern}
use Rattle.cue_policies.specs.WellFormed.{HasPattern, HasPatternInList}
use Rattle.cue_policies.specs.Inner.Answers.{PolicyTreeRefusals}
use Rattle.cue_policies.specs.Inner.Forms.{AreForms}

-- a label of the path is a pattern in a list, where the path may begin in one
abbrev pub HasPatternFrom : Bool → Path → Type 0
HasPatternFrom true path = HasPattern path
HasPatternFrom false path = HasPatternInList path

-- the step is a pattern in a list
abbrev pub IsBarred : Bool → Step → Type 0
IsBarred in_list (label l) = (in_list ≡ true) × IsPattern l
IsBarred in_list (index n) = ⊥

-- such a pattern at a place or below it, which may be in a list
abbrev pub IsMisplacedFrom : Bool → Tree Row → Path → Type 0
IsMisplacedFrom in_list tree path =
    (front : Path) × (pattern : List ℕ) × (path ≡ front ++ label pattern ∷ []) × IsPattern pattern
    × ((HasPatternFrom in_list path
    × ¬ ((below : Path) (question : Question) → ¬ PolicyTreeRefusals tree (path ++ below) question))
    ⊎ ((l : List ℕ) × PolicyTreeRefusals tree front (allows l)
    × ¬ PolicyTreeRefusals tree front (allows pattern)))

-- the last step first
abbrev pub IsMisplacedUp : Bool → Tree Row → Path → Type 0
IsMisplacedUp in_list tree up = IsMisplacedFrom in_list tree (reverse up)

-- a label is one of a list
abbrev pub IsOneOf : List (List ℕ) → List ℕ → Type 0
IsOneOf [] wanted = ⊥
IsOneOf (l ∷ labels) wanted = (l ≡ wanted) ⊎ IsOneOf labels wanted

-- a pattern is in the set of labels of a row
abbrev pub IsListedAt : Option Row → List ℕ → Type 0
IsListedAt None pattern = ⊥
IsListedAt (Some row) pattern =
    IsPattern pattern × ((labels : List (List ℕ)) × (row.labels ≡ Some labels) × IsOneOf labels pattern)

-- Spans that are left of branches: they decide whether the others are right, and what is found in
-- them is found among all.
pub record IsLeft (in_list : Bool) (all : Children Row) (spans : List (Span × Tree Row)) : Type 0 where
  pub forms : AreForms in_list all ↔ AreForms in_list (branches_of_spans spans)
  pub smaller : children_size (branches_of_spans spans) ≤ children_size all
  pub kept : AreBranches (IsRowKept RefusesAsked IsRow) (branches_of_spans spans)
  pub found : (step : Step) (tree : Tree Row) → find step (branches_of_spans spans) ≡ Some tree
      → find step all ≡ Some tree
