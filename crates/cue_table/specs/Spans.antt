-- Branches that are kept as one: neighbouring elements that are alike.
use Rattle.std.specs.Prelude.{ℕ, zero, suc, List, [], ◌∷◌}
use Rattle.cue_lattice.specs.Path.{Step, label, index}
use Rattle.cue_table.specs.Tree.{Tree, Children, none, child}

-- the branch at a label, or that of the element with an index and of so many behind it
pub data Span : Type 0 where
  field : List ℕ → Span
  elements : ℕ → ℕ → Span

-- the step to the first of its branches
abbrev pub first_of_span : Span → Step
first_of_span (field text) = label text
first_of_span (elements i more) = index i

-- how many stand behind it
abbrev pub more_in : Span → ℕ
more_in (field text) = 0
more_in (elements i more) = more

-- the element with an index and so many behind it, all alike, and then other branches
abbrev pub alike_elements : {R : Type 0} → ℕ → ℕ → Tree R → Children R → Children R
alike_elements i zero tree others = child (index i) tree others
alike_elements i (suc more) tree others = child (index i) tree (alike_elements (suc i) more tree others)

-- the branches of a span, and then other ones
abbrev pub branches_of_span : {R : Type 0} → Span → Tree R → Children R → Children R
branches_of_span (field text) tree others = child (label text) tree others
branches_of_span (elements i more) tree others = alike_elements i more tree others

-- the branches of all spans
abbrev pub branches_of_spans : {R : Type 0} → List (Span × Tree R) → Children R
branches_of_spans [] = none
branches_of_spans ((span, tree) ∷ spans) = branches_of_span span tree (branches_of_spans spans)
