-- A table is a tree: at each place a row, where something is refused there, and below it the
-- branches, each at its step; and, where a list goes on, the one branch that all further elements
-- have.
use Rattle.std.specs.Prelude.{ℕ, ◌+◌, max, nat_lt, if◌then◌else◌, List, [], ◌∷◌, Option, Some, None}
use Rattle.std.specs.Option.{option_and_then}
use Rattle.std.specs.declared.cmp.Ordering.{Ordering}
use Rattle.std.specs.declared.cmp.Ordering.TheVariants.{Less, Equal, Greater}
use Rattle.cue_lattice.specs.Path.{Step, label, index, step_cmp, Path}

mutual
  pub data Tree (R : Type 0) : Type 0 where
    node : Option R → Children R → Rest R → Tree R

  pub data Children (R : Type 0) : Type 0 where
    none : Children R
    child : Step → Tree R → Children R → Children R

  -- nothing, or what each element is from an index on
  pub data Rest (R : Type 0) : Type 0 where
    no_rest : Rest R
    onward : ℕ → Tree R → Rest R

-- the row at a tree's own place
abbrev pub row_of : {R : Type 0} → Tree R → Option R
row_of (node row children rest) = row

-- the branches below it, each at a step of its own
abbrev pub below : {R : Type 0} → Tree R → Children R
below (node row children rest) = children

-- what its further elements are
abbrev pub rest_below : {R : Type 0} → Tree R → Rest R
rest_below (node row children rest) = rest

-- the table without rows
abbrev pub empty : {R : Type 0} → Tree R
empty = node None none no_rest

-- the tree, where a row stands at its place or below
abbrev pub if_not_empty : {R : Type 0} → Tree R → Option (Tree R)
if_not_empty (node None none no_rest) = None
if_not_empty (node None none (onward n tree)) = Some (node None none (onward n tree))
if_not_empty (node None (child step tree children) rest) =
    Some (node None (child step tree children) rest)
if_not_empty (node (Some row) children rest) = Some (node (Some row) children rest)

-- what is found where two steps compare so: the branch at hand, or what else is found
abbrev pub if_equal : {R : Type 0} → Ordering → Tree R → Option (Tree R) → Option (Tree R)
if_equal Less tree other = other
if_equal Equal tree other = Some tree
if_equal Greater tree other = other

-- the branch that stands at a step of its own
abbrev pub find : {R : Type 0} → Step → Children R → Option (Tree R)
find step none = None
find step (child next tree children) = if_equal (step_cmp step next) tree (find step children)

-- the branch one step below: an element from the rest's index on is the rest
abbrev pub find_with : {R : Type 0} → Rest R → Step → Children R → Option (Tree R)
find_with no_rest step children = find step children
find_with (onward n tree) (label text) children = find (label text) children
find_with (onward n tree) (index i) children =
    if nat_lt i n then find (index i) children else Some tree

abbrev pub step_into : {R : Type 0} → Tree R → Step → Option (Tree R)
step_into (node row children rest) step = find_with rest step children

-- the branch at a path
abbrev pub branch_at : {R : Type 0} → Tree R → Path → Option (Tree R)
branch_at tree [] = Some tree
branch_at tree (step ∷ path) =
    option_and_then (λ branch. branch_at branch path) (step_into tree step)

-- the row at a path
abbrev pub row_at : {R : Type 0} → Tree R → Path → Option R
row_at tree path = option_and_then row_of (branch_at tree path)

-- the branch that further elements have
abbrev pub rest_at : {R : Type 0} → Rest R → Option (Tree R)
rest_at no_rest = None
rest_at (onward n tree) = Some tree

-- the first index at which no own element stands or may stand
abbrev pub behind_last : {R : Type 0} → Children R → ℕ
behind_last none = 0
behind_last (child (label text) tree children) = behind_last children
behind_last (child (index i) tree children) = max (i + 1) (behind_last children)

-- from which index on all elements are alike: from that of the rest, or behind the last element
abbrev pub fixed_with : {R : Type 0} → Rest R → Children R → ℕ
fixed_with no_rest children = behind_last children
fixed_with (onward n tree) children = n

abbrev pub fixed_of : {R : Type 0} → Tree R → ℕ
fixed_of (node row children rest) = fixed_with rest children

-- the branches with their steps, in order
abbrev pub children_of : {R : Type 0} → Children R → List (Step × Tree R)
children_of none = []
children_of (child step tree children) = (step, tree) ∷ children_of children

-- the branches at labels, in order
abbrev pub labels_of : {R : Type 0} → Children R → List (List ℕ × Tree R)
labels_of none = []
labels_of (child (label text) tree children) = (text, tree) ∷ labels_of children
labels_of (child (index number) tree children) = labels_of children

-- the branches at indexes, in order
abbrev pub items_of : {R : Type 0} → Children R → List (ℕ × Tree R)
items_of none = []
items_of (child (label text) tree children) = items_of children
items_of (child (index number) tree children) = (number, tree) ∷ items_of children
