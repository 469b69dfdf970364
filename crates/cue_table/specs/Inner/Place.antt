-- Where a branch is among its siblings, or would be.
use Rattle.std.specs.Prelude.{◌≡◌, ℕ, zero, suc, ◌<◌, ◌≤◌, List, length, slice_index_or, Some, None}
use Rattle.std.specs.declared.cmp.Ordering.TheVariants.{Less}
use Rattle.cue_lattice.specs.Path as paths
use Rattle.cue_lattice.specs.Path.{index, step_cmp}
use Rattle.cue_row.specs.Steps.{step_of}
use Rattle.cue_table.specs.Form.{IsStepBelowAll}
use Rattle.cue_table.specs.Tree.{Children, none, child, find}
use Rattle.cue_table.specs.Inner.Parts.{branches_past}
use Rattle.cue_table.specs.Inner.View.{branches}
use Rattle.cue_table.specs.Inner.Child.{Child}

-- the first n branches stand before the step
abbrev pub AreBefore : {R : Type 0} → ℕ → paths.Step → Children R → Type 0
AreBefore zero step children = Unit {0}
AreBefore (suc n) step none = ⊥
AreBefore (suc n) step (child next tree children) =
    (step_cmp next step ≡ Less) × AreBefore n step children

-- the first n branches stand before each step behind this one
abbrev pub ArePassed : {R : Type 0} → ℕ → paths.Step → Children R → Type 0
ArePassed n step children =
    (later : paths.Step) → step_cmp step later ≡ Less → AreBefore n later children

-- the branch at the step stands at this place of the list
pub record IsPlace {R : Type 0} (children : List (Child R)) (step : paths.Step)
    (at : ℕ) : Type 0 where
  pub in_range : at < length children
  pub is_there : (d : Child R)
      → find step (branches children) ≡ Some (slice_index_or children at d).node
  pub at_step : (d : Child R) → step_of (slice_index_or children at d).step ≡ step
  pub before : AreBefore at step (branches children)

-- no branch is at the step, and one would stand at this place of the list
pub record IsGap {R : Type 0} (children : List (Child R)) (step : paths.Step)
    (at : ℕ) : Type 0 where
  pub in_range : at ≤ length children
  pub absent : find step (branches children) ≡ None
  pub before : AreBefore at step (branches children)
  pub after : IsStepBelowAll step (branches_past at (branches children))

-- the element with this index stands at the place of the list that the index says
pub record HasAtIndex {R : Type 0} (children : List (Child R)) (number : ℕ) : Type 0 where
  pub in_range : number < length children
  pub at_step : (d : Child R) → step_of (slice_index_or children number d).step ≡ index number
