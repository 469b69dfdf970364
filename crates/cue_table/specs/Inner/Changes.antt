-- Changes of a list of branches that takes others over.
use Rattle.std.specs.Prelude.{◌≤◌, ◌+◌, ◌++◌, ℕ, Bool, true, false, List, [], ◌∷◌, Option, Some}
use Rattle.std.specs.Prelude.{None}
use Rattle.std.specs.Prelude.{length, take, drop}
use Rattle.std.specs.Option.{option_to_list}
use Rattle.cue_row.specs.Steps.{step_of}
use Rattle.cue_table.specs.Form.{AreBranches}
use Rattle.cue_table.specs.Inner.Meet.{IsMerge}
use Rattle.cue_table.specs.Tree.{Children, child}
use Rattle.cue_table.specs.Inner.Child.{Child}
use Rattle.cue_table.specs.Inner.Place.{ArePassed}
use Rattle.cue_table.specs.Inner.View.{branches}
use Rattle.cue_table.specs.declared.changes.Change.{Change}
use Rattle.cue_table.specs.declared.changes.FoundChange.{FoundChange}
use Rattle.cue_table.specs.declared.changes.FoundChange.TheVariants.{Same, New}

-- what is new, where it is there, and else what was before
abbrev pub or_old : {X : Type 0} → Option X → X → X
or_old None old = old
or_old (Some new) old = new

-- how many branches give way
abbrev pub replaced_count : Bool → ℕ
replaced_count true = 1
replaced_count false = 0

-- the branches behind a change
abbrev pub branches_behind : {R Q : Type 0} → Change R Q → List (Child R) → List (Child R)
branches_behind change children = drop (replaced_count change.replaces) (drop change.kept children)

-- the branches after the changes
abbrev pub carry_out_changes : {R Q : Type 0} → List (Change R Q) → List (Child R) → List (Child R)
carry_out_changes [] children = children
carry_out_changes (change ∷ changes) children =
    take change.kept children ++ change.child ∷ carry_out_changes changes (branches_behind change children)

-- there are as many branches as the changes go past
abbrev pub ChangesFit : {R Q : Type 0} → List (Change R Q) → List (Child R) → Type 0
ChangesFit [] children = Unit {0}
ChangesFit (change ∷ changes) children =
    (change.kept + replaced_count change.replaces ≤ length children) × ChangesFit changes (branches_behind change children)

-- how many branches there are more
abbrev pub added_count : Bool → ℕ
added_count true = 0
added_count false = 1

abbrev pub total_added : {R Q : Type 0} → List (Change R Q) → ℕ
total_added [] = 0
total_added (change ∷ changes) = added_count change.replaces + total_added changes

-- the branches behind the change, if there is one
abbrev pub behind_found : {R Q : Type 0} → Option (Change R Q) → List (Child R) → List (Child R)
behind_found None children = children
behind_found (Some change) children = branches_behind change children

-- What makes the union of the branches behind the change with others makes that of all of them with
-- the other branch before those others, behind the change.
pub record IsChange {R Q : Type 0} (refuses : R → Q → Type 0) (P : R → Type 0)
    (left : List (Child R)) (other : Child R) (found : Option (Change R Q)) : Type 0 where
  pub fit : (tail : List (Change R Q)) → ChangesFit tail (behind_found found left)
      → ChangesFit (option_to_list found ++ tail) left
  pub union : (others : Children R) (tail : List (Change R Q))
      → AreBranches P (child (step_of other.step) other.node others)
      → IsMerge refuses P (branches (behind_found found left)) others
      (branches (carry_out_changes tail (behind_found found left)))
      → IsMerge refuses P (branches left) (child (step_of other.step) other.node others)
      (branches (carry_out_changes (option_to_list found ++ tail) left))

-- the branch changes nothing, and so many stand at its step or before it; or it makes this change
abbrev pub IsFound : {R Q : Type 0} → (R → Q → Type 0) → (R → Type 0)
    → List (Child R) → Child R → FoundChange R Q → Type 0
IsFound refuses P left other (Same past) =
    IsChange refuses P left other None × ArePassed past (step_of other.step) (branches left)
IsFound refuses P left other (New change) = IsChange refuses P left other (Some change)
