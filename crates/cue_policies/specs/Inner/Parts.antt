-- The parts of a place of the view, as the code has them.
use Rattle.std.specs.Prelude.{◌≡◌, ◌↔◌, ◌⊎◌, ℕ, ◌<◌, ◌≤◌, max, Bool, true, false, List, [], ◌∷◌}
use Rattle.std.specs.Prelude.{Option, Some}
use Rattle.cue_lattice.specs.Limits.{step_limit}
use Rattle.cue_lattice.specs.OneOf.{OneOf}
use Rattle.cue_lattice.specs.Path.{label, index, Path}
use Rattle.cue_lattice.specs.Question.{Question, Refusals}
use Rattle.cue_row.specs.Made.{at_level}
use Rattle.cue_row.specs.Row.{RefusesAsked, IsRow}
use Rattle.cue_row.specs.Steps.{step_of}
use Rattle.cue_row.specs.ValidRow.{IsWord}
use Rattle.cue_row.specs.declared.level.Level.TheVariants.{Optional}
use Rattle.cue_row.specs.declared.parts.RowParts.{RowParts as Row}
use Rattle.cue_row.specs.declared.step.Step.{Step}
use Rattle.cue_table.specs.Depth.{tree_depth}
use Rattle.cue_table.specs.Form.{IsTable}
use Rattle.cue_table.specs.Inner.ValidWalk.{IsSound}
use Rattle.cue_table.specs.Tree.{Tree, empty, row_of, rest_below, rest_at, fixed_of, step_into}
use Rattle.cue_table.specs.Valid.{IsOpenStruct}
use Rattle.cue_policies.specs.Patterns.{IsPatternOf, MatchesPattern}
use Rattle.cue_policies.specs.View.{ViewedPart, IsLevelInView, DeclaresAt, ViewRefuses}
use Rattle.cue_policies.specs.WellFormed.{HasPatternInList}
use Rattle.cue_policies.specs.Inner.Answers.{PolicyTreeRefusals}
use Rattle.cue_policies.specs.declared.kind.LayerKind.{LayerKind}
use Rattle.cue_policies.specs.declared.kind.LayerKind.TheVariants as kinds
use Rattle.cue_policies.specs.declared.part.Role.{Role}
use Rattle.cue_policies.specs.declared.part.Role.TheVariants as roles
use Rattle.cue_policies.specs.declared.part.ViewPart.{ViewPart}

abbrev pub kind_of : Role → LayerKind
kind_of roles.Layer = kinds.Layer
kind_of roles.Policy = kinds.Policy
kind_of roles.Pattern = kinds.Policy

-- the role of what is at a label that is no pattern
abbrev pub role_below : Role → Role
role_below roles.Layer = roles.Layer
role_below roles.Policy = roles.Policy
role_below roles.Pattern = roles.Policy

-- the level of the place itself plays no part
abbrev pub IsLoose : Role → Type 0
IsLoose roles.Layer = ⊥
IsLoose roles.Policy = ⊥
IsLoose roles.Pattern = Unit {0}

-- what a place refuses in its role
abbrev pub refused_in_role : Role → Tree Row → Refusals
refused_in_role role tree [] question = PolicyTreeRefusals tree [] question × ¬ (IsLoose role × IsLevelInView question)
refused_in_role role tree (step ∷ path) question = PolicyTreeRefusals tree (step ∷ path) question

-- a row in its role
abbrev pub held_row : Role → Row → Row
held_row roles.Layer row = row
held_row roles.Policy row = row
held_row roles.Pattern row = at_level Optional row

abbrev pub part_of : ViewPart → ViewedPart
part_of part = record { kind = kind_of part.role; refuses = refused_in_role part.role part.branch }

-- the parts of the root: a table for all layers proper, and one for all policies
abbrev pub two_parts : Tree Row → Tree Row → List ViewPart
two_parts layers policies =
    record { role = roles.Layer; branch = layers }
    ∷ record { role = roles.Policy; branch = policies } ∷ []

-- what the view of the parts refuses
abbrev pub PartsRefuse : List ViewPart → Refusals
PartsRefuse = ViewRefuses part_of

abbrev pub IsIn : {X : Type 0} → X → List X → Type 0
IsIn x xs = OneOf (λ y. y ≡ x) xs

-- there is a branch
abbrev pub IsThere : Option (Tree Row) → Type 0
IsThere found = (tree : Tree Row) × (found ≡ Some tree)

-- a label that is a pattern, or none
abbrev pub IsOf : Bool → Role → List ℕ → Type 0
IsOf true role l = IsPatternOf (kind_of role) l
IsOf false role l = ¬ IsPatternOf (kind_of role) l

abbrev pub HasLabel : Bool → ViewPart → List ℕ → Type 0
HasLabel patterns part l = IsOf patterns part.role l × IsThere (step_into part.branch (label l))

-- the list has just the labels of the parts: those that are patterns, or the others
abbrev pub HasLabels : Bool → List ViewPart → List (List ℕ) → Type 0
HasLabels patterns parts labels =
    (l : List ℕ) → IsIn l labels ↔ OneOf (λ part. HasLabel patterns part l) parts

-- and after one more part was looked at
abbrev pub GainsLabels : Bool → List (List ℕ) → ViewPart → List (List ℕ) → Type 0
GainsLabels patterns old part new =
    (l : List ℕ) → IsIn l new ↔ (IsIn l old ⊎ HasLabel patterns part l)

-- the other part is what a part has at the label, in this role
abbrev pub HasPartAt : ViewPart → Role → List ℕ → ViewPart → Type 0
HasPartAt part role l next = (step_into part.branch (label l) ≡ Some next.branch) × (next.role ≡ role)

-- the other part is what a part has at one of these patterns that fits the label
abbrev pub IsBoundBelow : List (List ℕ) → List ℕ → ViewPart → ViewPart → Type 0
IsBoundBelow patterns l part next =
    OneOf (λ own. IsPatternOf (kind_of part.role) own × MatchesPattern own l × HasPartAt part roles.Pattern own next)
    patterns

-- the other part is what a part has for the label
abbrev pub IsBelow : List (List ℕ) → List ℕ → ViewPart → ViewPart → Type 0
IsBelow patterns l part next =
    ((¬ IsPatternOf (kind_of part.role) l) × HasPartAt part (role_below part.role) l next)
    ⊎ IsBoundBelow patterns l part next

-- what a part refuses but at labels
abbrev pub PlaceRefuses : ViewPart → Refusals
PlaceRefuses part [] question = refused_in_role part.role part.branch [] question
PlaceRefuses part (label l ∷ path) question = ⊥
PlaceRefuses part (index i ∷ path) question = PolicyTreeRefusals part.branch (index i ∷ path) question

abbrev pub IsPlace : ViewPart → Tree Row → Type 0
IsPlace part table =
    (path : Path) (question : Question) → PolicyTreeRefusals table path question ↔ PlaceRefuses part path question

-- what the parts refuse together, but at labels
abbrev pub ArePlaces : List ViewPart → Tree Row → Type 0
ArePlaces parts table =
    (path : Path) (question : Question)
    → PolicyTreeRefusals table path question ↔ OneOf (λ part. PlaceRefuses part path question) parts

-- what a place refuses in its elements
abbrev pub ElementsRefuse : Tree Row → Refusals
ElementsRefuse tree [] question = ⊥
ElementsRefuse tree (label l ∷ path) question = ⊥
ElementsRefuse tree (index i ∷ path) question = PolicyTreeRefusals tree (index i ∷ path) question

-- what the rest of a list refuses in its elements
abbrev pub RestRefuses : Tree Row → Refusals
RestRefuses tree path question =
    (i : ℕ) × (behind : Path) × (rest : Tree Row) × (path ≡ index i ∷ behind)
    × (rest_at (rest_below tree) ≡ Some rest) × (fixed_of tree ≤ i) × PolicyTreeRefusals rest behind question

abbrev pub IsElements : Tree Row → Tree Row → Type 0
IsElements tree table =
    (path : Path) (question : Question) → PolicyTreeRefusals table path question ↔ ElementsRefuse tree path question

-- a place of a valid table
abbrev pub IsSoundTree : Tree Row → Type 0
IsSoundTree tree = (tree ≡ empty) ⊎ IsSound tree

-- A part is a place of a valid table, and a policy has no pattern in a list.
pub record IsSoundPart (part : ViewPart) : Type 0 where
  pub form : IsTable RefusesAsked IsRow part.branch
  pub sound : IsSoundTree part.branch
  pub lists : (path : Path) (question : Question) → PolicyTreeRefusals part.branch path question
      → ¬ ((kind_of part.role ≡ kinds.Policy) × HasPatternInList path)

abbrev pub AreSoundParts : List ViewPart → Type 0
AreSoundParts parts = (part : ViewPart) → IsIn part parts → IsSoundPart part

-- how many steps the deepest part has
abbrev pub most_depth : List ViewPart → ℕ
most_depth [] = 0
most_depth (part ∷ parts) = max (tree_depth part.branch) (most_depth parts)

-- an open struct of no level is at the root, or nothing
abbrev pub HasOpenRow : Tree Row → Type 0
HasOpenRow tree = (row : Row) → row_of tree ≡ Some row → IsOpenStruct row × (row.level ≡ Optional)

-- the tree may be the root of a valid table, or a place below it
abbrev pub IsLimited : Bool → Tree Row → Type 0
IsLimited true tree = (tree_depth tree ≤ step_limit) × HasOpenRow tree
IsLimited false tree = tree_depth tree < step_limit

abbrev pub IsFit : Bool → Tree Row → Type 0
IsFit top tree = IsSoundTree tree × IsLimited top tree

abbrev pub AreLimited : Bool → List ViewPart → Type 0
AreLimited top parts = (part : ViewPart) → IsIn part parts → IsLimited top part.branch

-- the table of a field of the view
pub record IsField (parts : List ViewPart) (field : Step × Tree Row) : Type 0 where
  pub at : List ℕ
  pub is : step_of field.0 ≡ label at
  pub word : IsWord at
  pub form : IsTable RefusesAsked IsRow field.1
  pub fit : IsFit false field.1
  pub refused : (path : Path) (question : Question)
      → PolicyTreeRefusals field.1 path question ↔ PartsRefuse parts (label at ∷ path) question

-- the fields of the view: each is one of a label that the parts declare, and none is left out
pub record AreFields (parts : List ViewPart) (fields : List (Step × Tree Row)) : Type 0 where
  pub made : (field : Step × Tree Row) → IsIn field fields → IsField parts field
  pub all : (l : List ℕ) → OneOf (λ part. DeclaresAt (part_of part) [] l) parts
      → OneOf (λ field. step_of field.0 ≡ label l) fields
