-- The fields among the branches of a place, which stand before its elements.
use Rattle.std.proofs.Common.{◌≡◌, ◌<◌, ◌≤◌, ℕ, zero, suc, true, false, List, [], ◌∷◌, take, length, get_or, Option, Some, None, refl, sym, ap, ◌∙◌, arith}
use Rattle.std.specs.List.Sorted.{IsPartitionPoint}
use Rattle.cue_lattice.specs.Path as paths
use Rattle.cue_lattice.specs.Path.{label, index}
use Rattle.cue_row.specs.declared.step.Step.{Step}
use Rattle.cue_row.specs.declared.step.Step.TheVariants.{Label, Index}
use Rattle.cue_row.specs.Steps.{step_of}
use Rattle.cue_table.specs.Inner.Child.{Child}
use Rattle.cue_table.specs.Tree.{Tree, Children, none, child, if_equal, find}
use Rattle.cue_table.specs.Form.{IsStepBelowAll, AreBranches, AreWithinDepth}
use Rattle.cue_table.specs.Inner.Form.{StepsRise}
use Rattle.std.specs.Prelude.{Box}
use Rattle.std.specs.Global.{Global}
use Rattle.cue_table.specs.declared.node.Onward.{Onward}
use Rattle.cue_table.specs.declared.node.Node.TheInside.{Inside}
use Rattle.cue_table.specs.Depth.{tree_depth, children_depth}
use Rattle.cue_table.specs.Inner.Join.{join_children}
use Rattle.cue_table.specs.Inner.View.{below_in, branches, run_branches, tree_of}
use Rattle.cue_table.proofs.Branches.{find_before}
use Rattle.cue_table.proofs.Nodes.{is_label}

module _ {R : Type 0} where
  front_within : (step : Step) (tree : Tree R) (others : Children R) → is_label step ≡ true → AreWithinDepth 0 others → AreWithinDepth 0 (child (step_of step) tree others)
  front_within (Label text) tree others e h = h
  front_within (Index n) tree others e h = absurd (cc)

  same_front : (s : paths.Step) (step : paths.Step) (tree : Tree R) (a b : Children R) → find s a ≡ find s b → find s (child step tree a) ≡ find s (child step tree b)
  same_front s step tree a b e = ap (if_equal (paths.step_cmp s step) tree) e

  element_first : (text : List ℕ) (step : Step) (tree : Tree R) (others : Children R) → is_label step ≡ false → IsStepBelowAll (step_of step) others → find (label text) others ≡ None → find (label text) (child (step_of step) tree others) ≡ None
  element_first text (Label l) tree others e h k = absurd (cc)
  element_first text (Index n) tree others e h k = find_before (label text) (index n) tree others refl ∙ k

  -- the first of two lists is no deeper than both
  join_depth : (a b : Children R) → children_depth a ≤ children_depth (join_children a b)
  join_depth none b = omega arith
  join_depth (child step tree children) b = omega (arith, join_depth children b)

module _ {R : Type 0} where
  -- no element is among the fields
  pub fields_within : (cs : List (Child R)) (k : ℕ) → IsPartitionPoint (λ c. is_label c.step ≡ true) (λ c. is_label c.step ≡ false) cs k → AreWithinDepth 0 (branches (take k cs))
  fields_within cs zero p = tt
  fields_within [] (suc k) p = tt
  fields_within (c ∷ cs) (suc k) p =
      front_within c.step c.node (branches (take k cs)) (p.0 0 c (omega arith) (omega arith))
      (fields_within cs k (λ i d low lt. p.0 (suc i) d (omega arith) (omega arith), λ i d low lt. p.1 (suc i) d (omega arith) (omega arith)))

  no_field : (text : List ℕ) (cs : List (Child R)) → StepsRise (branches cs) → ((i : ℕ) (d : Child R) → i < length cs → is_label (get_or cs i d).step ≡ false) → find (label text) (branches cs) ≡ None
  no_field text [] a h = refl
  no_field text (c ∷ cs) a h =
      element_first text c.step c.node (branches cs) (h 0 c (omega arith)) a.0 (no_field text cs a.1 (λ i d l. h (suc i) d (omega arith)))

  -- a label is found among them where it is found at all
  pub fields_found : (text : List ℕ) (cs : List (Child R)) (k : ℕ) → StepsRise (branches cs) → IsPartitionPoint (λ c. is_label c.step ≡ true) (λ c. is_label c.step ≡ false) cs k
      → find (label text) (branches (take k cs)) ≡ find (label text) (branches cs)
  fields_found text cs zero a p = sym (no_field text cs a (λ i d l. p.1 i d (omega arith) l))
  fields_found text [] (suc k) a p = refl
  fields_found text (c ∷ cs) (suc k) a p =
      same_front (label text) (step_of c.step) c.node (branches (take k cs)) (branches cs)
      (fields_found text cs k a.1 (λ i d low lt. p.0 (suc i) d (omega arith) (omega arith), λ i d low lt. p.1 (suc i) d (omega arith) (omega arith)))

  -- the first branches are in form
  pub form_take : (P : R → Type 0) (cs : List (Child R)) (k : ℕ) → AreBranches P (branches cs) → AreBranches P (branches (take k cs))
  form_take P cs zero h = tt
  form_take P [] (suc k) h = tt
  form_take P (c ∷ cs) (suc k) h = (below_take (step_of c.step) cs k h.0, h.1, h.2, form_take P cs k h.3)
    where
      below_take : (s : paths.Step) (cs : List (Child R)) (k : ℕ) → IsStepBelowAll s (branches cs) → IsStepBelowAll s (branches (take k cs))
      below_take s cs zero h = tt
      below_take s [] (suc k) h = tt
      below_take s (c ∷ cs) (suc k) h = (h.0, below_take s cs k h.1)

  -- they are no deeper than all
  take_depth : (cs : List (Child R)) (k : ℕ) → children_depth (branches (take k cs)) ≤ children_depth (branches cs)
  take_depth cs zero = omega arith
  take_depth [] (suc k) = omega arith
  take_depth (c ∷ cs) (suc k) = omega (arith, take_depth cs k)

  below_in_depth : {Q : Type 0} (cs : List (Child R)) (rest : Option (Box (Onward R Q) Global)) → children_depth (branches cs) ≤ children_depth (below_in (branches cs) rest)
  below_in_depth cs None = omega arith
  below_in_depth cs (Some b) = join_depth (branches cs) (run_branches b.value.runs.items)

  pub fields_depth : {Q : Type 0} (a : Inside R Q) (tree : Tree R) (k : ℕ) → tree_of a ≡ tree → children_depth (branches (take k a.children.items)) ≤ tree_depth tree
  fields_depth a tree k e = omega (arith, take_depth a.children.items k, below_in_depth a.children.items a.rest, ap tree_depth e)
