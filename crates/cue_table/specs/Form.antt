-- The one form that a table has for its answers: the steps of branches rise, no branch is empty, no
-- row is free, and the rest of a list begins as early as it can.
use Rattle.std.specs.Prelude.{◌≡◌, ◌≢◌, ◌<◌, ◌≤◌, ◌^◌, ℕ, zero, suc, Option, Some, None}
use Rattle.std.specs.declared.cmp.Ordering.TheVariants.{Less}
use Rattle.cue_lattice.specs.Path.{Step, label, index, step_cmp}
use Rattle.cue_table.specs.Tree.{Tree, node, Children, none, child, Rest, no_rest, onward, find}

-- the step is before those of all branches
abbrev pub IsStepBelowAll : {R : Type 0} → Step → Children R → Type 0
IsStepBelowAll step none = Unit {0}
IsStepBelowAll step (child next tree children) = (step_cmp step next ≡ Less) × IsStepBelowAll step children

-- the first step is no label
abbrev pub StartsAtIndex : {R : Type 0} → Children R → Type 0
StartsAtIndex none = Unit {0}
StartsAtIndex (child (label text) tree children) = ⊥
StartsAtIndex (child (index number) tree children) = Unit {0}

-- a row stands at the tree's place or below
abbrev pub IsTreeTaken : {R : Type 0} → Tree R → Type 0
IsTreeTaken (node (Some row) children rest) = Unit {0}
IsTreeTaken (node None none no_rest) = ⊥
IsTreeTaken (node None none (onward n tree)) = Unit {0}
IsTreeTaken (node None (child step tree children) rest) = Unit {0}

-- where there is a row, P holds of it
abbrev pub IsTableRow : {R : Type 0} → (R → Type 0) → Option R → Type 0
IsTableRow P None = Unit {0}
IsTableRow P (Some row) = P row

-- the elements among the branches stand below an index
abbrev pub AreWithinDepth : {R : Type 0} → ℕ → Children R → Type 0
AreWithinDepth n none = Unit {0}
AreWithinDepth n (child (label text) tree children) = AreWithinDepth n children
AreWithinDepth n (child (index i) tree children) = (i < n) × AreWithinDepth n children

-- the element before an index differs from the rest
abbrev pub DiffersFromRest : {R : Type 0} → ℕ → Tree R → Children R → Type 0
DiffersFromRest zero rest children = Unit {0}
DiffersFromRest (suc i) rest children = find (index i) children ≢ Some rest

-- P holds of each row, the steps of branches rise at each place, no branch is empty, and a rest
-- begins behind the elements of its own, the last of which differs from it, and not behind the last
-- index of 32 bits
abbrev mutual
  pub IsTree : {R : Type 0} → (R → Type 0) → Tree R → Type 0
  IsTree P (node row children rest) =
      IsTableRow P row × AreBranches P children × IsRestOf P children rest

  pub AreBranches : {R : Type 0} → (R → Type 0) → Children R → Type 0
  AreBranches P none = Unit {0}
  AreBranches P (child step tree children) =
      IsStepBelowAll step children × IsTreeTaken tree × IsTree P tree × AreBranches P children

  pub IsRestOf : {R : Type 0} → (R → Type 0) → Children R → Rest R → Type 0
  IsRestOf P children no_rest = Unit {0}
  IsRestOf P children (onward n tree) =
      AreWithinDepth n children × DiffersFromRest n tree children × IsTreeTaken tree × IsTree P tree × (n ≤ 2 ^ 32)

-- a row that is kept: a value of its type that refuses something
abbrev pub IsRowKept : {R Q : Type 0} → (R → Q → Type 0) → (R → Type 0) → R → Type 0
IsRowKept {R} {Q} refuses is_value row = is_value row × ¬ ((question : Q) → ¬ refuses row question)

abbrev pub IsTable : {R Q : Type 0} → (R → Q → Type 0) → (R → Type 0) → Tree R → Type 0
IsTable refuses is_value = IsTree (IsRowKept refuses is_value)
