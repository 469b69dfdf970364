-- Many tables as one.
use Rattle.std.specs.Prelude.{◌≡◌, ◌↔◌, ℕ, nat_lt, if◌then◌else◌, List, [], ◌∷◌}
use Rattle.cue_lattice.specs.OneOf.{OneOf}
use Rattle.cue_lattice.specs.Path as paths
use Rattle.cue_lattice.specs.Path.{Path, label, index}
use Rattle.cue_row.specs.Steps.{step_of}
use Rattle.cue_row.specs.declared.step.Step.{Step}
use Rattle.cue_table.specs.Tree.{Tree, empty}
use Rattle.cue_table.specs.Refuses.{TableRefuses}

-- the table refuses at each path exactly what one of the tables refuses there
abbrev pub AreUnified : {R Q : Type 0} → (R → Q → Type 0) → List (Tree R) → Tree R → Type 0
AreUnified {R} {Q} refuses tables met =
    (path : Path) (question : Q)
    → TableRefuses refuses met path question
    ↔ OneOf (λ table. TableRefuses refuses table path question) tables

-- The table refuses nothing at the root; and at a step and then a path exactly what one of the
-- tables that are given for this step refuses at the path.
pub record IsOfBranches {R Q : Type 0} (refuses : R → Q → Type 0) (given : List (Step × Tree R))
    (table : Tree R) : Type 0 where
  pub root : (question : Q) → ¬ TableRefuses refuses table [] question
  pub below :
      (step : paths.Step) (path : Path) (question : Q)
      → TableRefuses refuses table (step ∷ path) question
      ↔ OneOf (λ one. (step_of one.0 ≡ step) × TableRefuses refuses one.1 path question) given

-- the tree of the first stretch that begins at an index or before it; of a list of stretches, this
-- is what the element with the index is
abbrev pub element_given : {R : Type 0} → ℕ → List (ℕ × Tree R) → Tree R
element_given i [] = empty
element_given i ((start, tree) ∷ stretches) = if nat_lt i start then element_given i stretches else tree

-- The table refuses nothing at the root and at labels; and at an index and then a path exactly what
-- the element that is given for the index refuses at the path.
pub record IsOfElements {R Q : Type 0} (refuses : R → Q → Type 0) (given : List (ℕ × Tree R))
    (table : Tree R) : Type 0 where
  pub root : (question : Q) → ¬ TableRefuses refuses table [] question
  pub labels : (text : List ℕ) (path : Path) (question : Q)
      → ¬ TableRefuses refuses table (label text ∷ path) question
  pub elements : (i : ℕ) (path : Path) (question : Q)
      → TableRefuses refuses table (index i ∷ path) question
      ↔ TableRefuses refuses (element_given i given) path question
