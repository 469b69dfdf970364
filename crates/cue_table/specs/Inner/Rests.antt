-- Lists with a rest that are met: what answers at each step, and how the rest begins.
use Rattle.std.specs.Prelude.{◌≡◌, ℕ, zero, suc, ◌+◌, ◌≤◌, nat_lt, if◌then◌else◌, List, [], ◌∷◌}
use Rattle.std.specs.Prelude.{◌++◌}
use Rattle.std.specs.Prelude.{length, take, Option, Some, None}
use Rattle.std.specs.Option.{option_and_then}
use Rattle.cue_lattice.specs.Path as paths
use Rattle.cue_lattice.specs.Path.{label, index, Path}
use Rattle.cue_table.specs.Tree.{Tree, node, Children, none, child, no_rest, onward, row_of, find}
use Rattle.cue_table.specs.Tree.{find_with, step_into}
use Rattle.cue_table.specs.Tree.{branch_at}
use Rattle.cue_table.specs.Form.{IsTreeTaken, IsTree, AreBranches, AreWithinDepth, IsRestOf}
use Rattle.cue_table.specs.Inner.Runs.{AreFrom}
use Rattle.cue_table.specs.Inner.View.{branches, last_of, run_branches}
use Rattle.cue_table.specs.Inner.Child.{Child}
use Rattle.cue_table.specs.declared.node.Onward.{Onward}
use Rattle.cue_table.specs.declared.node.ElementRun.{ElementRun}
use Rattle.cue_table.specs.Meet.{IsUnion}
use Rattle.cue_table.specs.Refuses.{RowRefuses}

-- what a branch that may be there refuses at a path
abbrev pub BranchRefuses : {R Q : Type 0} → (R → Q → Type 0) → Option (Tree R) → Path → Q → Type 0
BranchRefuses refuses found path =
    RowRefuses refuses
    (option_and_then row_of (option_and_then (λ branch. branch_at branch path) found))

-- the third branch, where there is one, refuses exactly what one of the others does
abbrev pub AreMetRests : {R Q : Type 0} → (R → Q → Type 0) → Option (Tree R) → Option (Tree R)
    → Option (Tree R) → Type 0
AreMetRests refuses a b met =
    (path : Path)
    → IsUnion (BranchRefuses refuses a path) (BranchRefuses refuses b path)
    (BranchRefuses refuses met path)

-- what may be found one step below: a branch in form that is not empty
abbrev pub IsBranch : {R : Type 0} → (R → Type 0) → Option (Tree R) → Type 0
IsBranch P None = Unit {0}
IsBranch P (Some tree) = IsTreeTaken tree × IsTree P tree

-- the branch one step below where elements from an index on are all alike
abbrev pub found_to : {R : Type 0} → ℕ → Option (Tree R) → paths.Step → Children R → Option (Tree R)
found_to n rest (label text) children = find (label text) children
found_to n rest (index i) children = if nat_lt i n then find (index i) children else rest

-- the element before an index is as the rest
abbrev pub RepeatsRest : {R : Type 0} → ℕ → Tree R → Children R → Type 0
RepeatsRest zero rest children = ⊥
RepeatsRest (suc i) rest children = find (index i) children ≡ Some rest

-- elements before an index, in form
pub record AreElements {R : Type 0} (P : R → Type 0) (n : ℕ) (elements : Children R) : Type 0 where
  pub form : AreBranches P elements
  pub within : AreWithinDepth n elements
  pub indexes : AreFrom 0 elements

-- the last run begins at an index, ends before another one, and is as the rest
pub record IsLastRun {R Q : Type 0} (runs : List (ElementRun R Q)) (from : ℕ) (rest : Tree R)
    (first : ℕ) : Type 0 where
  pub others : List (ElementRun R Q)
  pub last : ElementRun R Q
  pub is : runs ≡ others ++ last ∷ []
  pub begins : first ≡ last.first
  pub ends : last_of last.first last.more + 1 ≡ from
  pub repeats : last.node ≡ rest

-- The run is that of all elements from one index to another, each of which is this tree.
pub record IsRunOf {R Q : Type 0} (P : R → Type 0) (first last : ℕ) (tree : Tree R)
    (run : ElementRun R Q) : Type 0 where
  pub begins : run.first ≡ first
  pub ends : run.more + first ≡ last
  pub is : run.node ≡ tree
  pub taken : IsTreeTaken tree
  pub form : IsTree P tree

-- A list that goes on so is in form, and each element is what it was: that of the list before an
-- index, and the rest from it on.
pub record IsSettled {R Q : Type 0} (P : R → Type 0) (fixed : ℕ) (elements : Children R)
    (tree : Tree R) (made : Onward R Q) : Type 0 where
  pub form : AreBranches P (run_branches made.runs.items)
  pub indexes : AreFrom 0 (run_branches made.runs.items)
  pub rest : IsRestOf P (run_branches made.runs.items) (onward made.from made.node)
  pub same : (i : ℕ) → find_with (onward made.from made.node) (index i) (run_branches made.runs.items)
      ≡ found_to fixed (Some tree) (index i) elements

-- The place is a list in form and nothing else. Its elements are those given before an index, and
-- from it on all are this one, where it is there.
pub record IsListOf {R : Type 0} (P : R → Type 0) (from : ℕ) (elements : Children R)
    (further : Option (Tree R)) (made : Tree R) : Type 0 where
  pub form : IsTree P made
  pub row : row_of made ≡ None
  pub labels : (text : List ℕ) → step_into made (label text) ≡ None
  pub same : (i : ℕ) → step_into made (index i) ≡ found_to from further (index i) elements

-- Lists that go on in form, each element of which refuses exactly what those of two places do.
pub record AreElementsMet {R Q S : Type 0} (refuses : R → S → Type 0) (P : R → Type 0)
    (left right : Tree R) (made : Onward R Q) : Type 0 where
  pub form : AreBranches P (run_branches made.runs.items)
  pub indexes : AreFrom 0 (run_branches made.runs.items)
  pub rest : IsRestOf P (run_branches made.runs.items) (onward made.from made.node)
  pub met : (i : ℕ) → AreMetRests refuses (step_into left (index i)) (step_into right (index i))
      (find_with (onward made.from made.node) (index i) (run_branches made.runs.items))

-- so many of the branches are fields, and the others are elements
pub record AreFields {R : Type 0} (children : List (Child R)) (count : ℕ) : Type 0 where
  pub in_range : count ≤ length children
  pub within : AreWithinDepth 0 (branches (take count children))
  pub same : (text : List ℕ) → find (label text) (branches (take count children))
      ≡ find (label text) (branches children)

-- a tree further from the root, at the end of a path
abbrev pub tree_along : {R : Type 0} → Path → Tree R → Tree R
tree_along [] tree = tree
tree_along (step ∷ path) tree = node None (child step (tree_along path tree) none) no_rest
