-- Parts of lists of branches, and of two rows the one that is there.
use Rattle.std.specs.Prelude.{ℕ, zero, suc, Option, Some, None}
use Rattle.cue_table.specs.Tree.{Children, none, child}

-- the first n branches
abbrev pub front_branches : {R : Type 0} → ℕ → Children R → Children R
front_branches zero children = none
front_branches (suc n) none = none
front_branches (suc n) (child step tree children) = child step tree (front_branches n children)

-- the branches after the first n
abbrev pub branches_past : {R : Type 0} → ℕ → Children R → Children R
branches_past zero children = children
branches_past (suc n) none = none
branches_past (suc n) (child step tree children) = branches_past n children

-- the first of two rows that is there
abbrev pub or_row : {R : Type 0} → Option R → Option R → Option R
or_row None row = row
or_row (Some row) old = Some row
