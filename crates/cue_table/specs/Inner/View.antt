-- How contracts see the nodes of the program.
use Rattle.std.specs.Prelude.{ℕ, ◌+◌, ◌-◌, ◌^◌, min, List, [], ◌∷◌, Option, Some, None, Box}
use Rattle.std.specs.Global.{Global}
use Rattle.cue_row.specs.Steps.{step_of}
use Rattle.cue_row.specs.declared.step.Step.{Step}
use Rattle.cue_row.specs.declared.step.Step.TheVariants.{Label, Index}
use Rattle.cue_table.specs.Spans.{Span, field, elements, alike_elements}
use Rattle.cue_table.specs.Inner.Join.{join_children}
use Rattle.cue_table.specs.Tree.{Tree, node, Children, none, child, Rest, no_rest, onward}
use Rattle.cue_table.specs.Inner.Child.{Child}
use Rattle.cue_table.specs.declared.child.Child.TheInside as held
use Rattle.cue_table.specs.declared.node.Node.TheInside.{Inside}
use Rattle.cue_table.specs.declared.node.Onward.{Onward}
use Rattle.cue_table.specs.declared.node.ElementRun.{ElementRun}

-- a branch as it is held
abbrev pub child_of : {R Q : Type 0} → held.Inside R Q → Child R
child_of a = record { step = a.held.value.step; node = a.held.value.node }

abbrev pub branches : {R : Type 0} → List (Child R) → Children R
branches [] = none
branches (c ∷ cs) = child (step_of c.step) c.node (branches cs)

-- how many elements a run has behind its first one, as far as there are indexes of 32 bits
abbrev pub more_of : ℕ → ℕ → ℕ
more_of first more = min more (2 ^ 32 - 1 - first)

abbrev pub last_of : ℕ → ℕ → ℕ
last_of first more = first + more_of first more

-- the elements of runs
abbrev pub run_branches : {R Q : Type 0} → List (ElementRun R Q) → Children R
run_branches [] = none
run_branches (r ∷ rs) = alike_elements r.first (more_of r.first r.more) r.node (run_branches rs)

abbrev pub runs_in : {R Q : Type 0} → Option (Box (Onward R Q) Global) → Children R
runs_in None = none
runs_in (Some b) = run_branches b.value.runs.items

-- the branches of a place: its own ones, and elements behind them
abbrev pub below_in : {R Q : Type 0} → Children R → Option (Box (Onward R Q) Global) → Children R
below_in own None = own
below_in own (Some b) = join_children own (run_branches b.value.runs.items)

abbrev pub rest_in : {R Q : Type 0} → Option (Box (Onward R Q) Global) → Rest R
rest_in None = no_rest
rest_in (Some b) = onward b.value.from b.value.node

abbrev pub tree_of : {R Q : Type 0} → Inside R Q → Tree R
tree_of a = node a.row (below_in (branches a.children.items) a.rest) (rest_in a.rest)

-- a step of its own as a span
abbrev pub span_at : Step → Span
span_at (Label text) = field text
span_at (Index number) = elements number 0

abbrev pub spans_in : {R : Type 0} → List (Child R) → List (Span × Tree R)
spans_in [] = []
spans_in (c ∷ cs) = (span_at c.step, c.node) ∷ spans_in cs

abbrev pub run_spans : {R Q : Type 0} → List (ElementRun R Q) → List (Span × Tree R)
run_spans [] = []
run_spans (r ∷ rs) = (elements r.first (more_of r.first r.more), r.node) ∷ run_spans rs
