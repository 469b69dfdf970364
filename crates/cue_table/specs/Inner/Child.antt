-- How contracts see branches at their steps.
use Rattle.std.specs.Prelude.{◌≡◌, ℕ, ◌+◌, ◌*◌}
use Rattle.std.proofs.Common.{ap}
use Rattle.std.specs.Coded.{Coded}
use base.Stored.{Gv, gcons}
use Rattle.cue_row.specs.Steps.{step_of}
use Rattle.cue_row.specs.declared.step.Step.{Step}
use Rattle.cue_row.specs.declared.step.Step.TheVariants.{Label, Index}
use Rattle.cue_table.specs.Code.{head, tail, step_gv, step_inj, tree_gv, tree_inj}
use Rattle.cue_table.specs.Size.{tree_size}
use Rattle.cue_table.specs.Tree.{Tree}

-- a branch with the step at which it stands
pub record Child (R : Type 0) : Type 0 where
  pub step : Step
  pub node : Tree R

-- each has a code of its own
pub step_same : (s t : Step) → step_of s ≡ step_of t → s ≡ t
step_same (Label s) (Label t) e = cc
step_same (Index m) (Index n) e = cc
step_same (Label s) (Index n) e = cc
step_same (Index m) (Label t) e = cc

pub child_gv : {R : Type 0} → (R → Gv) → Child R → Gv
child_gv c child = gcons (step_gv (step_of child.step)) (tree_gv c child.node)

pub child_inj : {R : Type 0} (c : Coded R) (a b : Child R)
    → child_gv c.code a ≡ child_gv c.code b → a ≡ b
unfolding child_gv
child_inj c a b e =
    let step : a.step ≡ b.step =
    step_same a.step b.step (step_inj (step_of a.step) (step_of b.step) (ap head e)) in
    let node : a.node ≡ b.node = tree_inj c a.node b.node (ap tail e) in
    λ i. record { step = step i; node = node i }

abbrev pub child_code : {R : Type 0} → Coded R → Coded (Child R)
child_code c = record { code = child_gv c.code; inj = child_inj c }

-- how large a node and a branch at its step are, by which a recursion over them ends
abbrev pub node_size : {R : Type 0} → Tree R → ℕ
node_size tree = 2 * tree_size tree

abbrev pub child_size : {R : Type 0} → Child R → ℕ
child_size child = node_size child.node + 1
