-- What the fields of a node say of its tree.
use Rattle.std.proofs.Common.{◌≡◌, ◌<◌, ◌≤◌, ◌+◌, ◌++◌, rules, ℕ, zero, suc, Bool, true, false, nat_eq, List, [], ◌∷◌, length, get_or, drop, Option, Some, None, refl, sym, ap, subst, ◌∙◌, arith}
use Rattle.std.specs.List.Sorted.{IsPartitionedBy, IsPartitionPoint}
use Rattle.std.specs.declared.cmp.Ordering.TheVariants.{Less}
use Rattle.std.specs.Ordering.{nat_cmp}
use Rattle.cue_lattice.specs.Path as paths
use Rattle.cue_lattice.specs.Path.{label, index, step_cmp}
use Rattle.cue_row.specs.declared.step.Step.{Step}
use Rattle.cue_row.specs.declared.step.Step.TheVariants.{Label, Index}
use Rattle.cue_row.specs.Steps.{step_of}
use Rattle.cue_table.specs.Tree.{Tree, node, Children, none, child, if_not_empty, labels_of, items_of}
use Rattle.std.specs.Global.{Global}
use Rattle.std.specs.Prelude.{Box}
use Rattle.cue_table.specs.declared.node.Onward.{Onward}
use Rattle.cue_table.specs.Tree.{behind_last}
use Rattle.cue_table.specs.Form.{IsStepBelowAll, StartsAtIndex, IsTree, AreBranches, IsRestOf}
use Rattle.cue_table.specs.Inner.Form.{StepsRise}
use Rattle.cue_table.specs.Size.{tree_size, children_size}
use Rattle.cue_table.specs.Inner.View.{below_in, branches, rest_in, run_branches, tree_of}
use Rattle.cue_table.specs.Inner.Child.{Child, step_same}
use Rattle.cue_table.specs.declared.node.Node.TheInside.{Inside}
use Rattle.cue_table.proofs.Finding.{at_or_below}
use Rattle.cue_table.proofs.Joined.{join_parts}

-- the branches of a tree in form are in form
below_form : {R Q : Type 0} (P : R → Type 0) (a : Inside R Q) (tree : Tree R) → tree_of a ≡ tree → IsTree P tree → AreBranches P (below_in (branches a.children.items) a.rest)
below_form P a tree e h = let here : IsTree P (tree_of a) = subst (IsTree P) (sym e) h in here.1

own_form : {R Q : Type 0} (P : R → Type 0) (cs : List (Child R)) (rest : Option (Box (Onward R Q) Global)) → AreBranches P (below_in (branches cs) rest) → AreBranches P (branches cs)
own_form P cs None h = h
own_form P cs (Some b) h = (join_parts P (branches cs) (run_branches b.value.runs.items) h).0

-- so are those at steps of their own
pub branches_form : {R Q : Type 0} (P : R → Type 0) (a : Inside R Q) (tree : Tree R) → tree_of a ≡ tree → IsTree P tree → AreBranches P (branches a.children.items)
branches_form P a tree e h = own_form P a.children.items a.rest (below_form P a tree e h)

before_less : (i n : ℕ) → nat_cmp i n ≡ Less → i < n
before_less i n h = search rules

-- so is the rest
pub rest_form : {R Q : Type 0} (P : R → Type 0) (a : Inside R Q) (tree : Tree R) (b : Box (Onward R Q) Global) → tree_of a ≡ tree → a.rest ≡ Some b → IsTree P tree → IsTree P b.value.node
rest_form P a tree b e r h =
    let here : IsTree P (tree_of a) = subst (IsTree P) (sym e) h in
    let rest : IsRestOf P (below_in (branches a.children.items) (Some b)) (rest_in (Some b)) = subst (λ x. IsRestOf P (below_in (branches a.children.items) x) (rest_in x)) r here.2 in
    rest.3

-- a node with branches is not empty
pub taken_below :
    {R Q : Type 0} (row : Option R) (cs : List (Child R)) (rest : Option (Box (Onward R Q) Global)) (len : ℕ) → len ≡ length cs → false ≡ nat_eq len 0
    → if_not_empty (node row (below_in (branches cs) rest) (rest_in rest)) ≡ Some (node row (below_in (branches cs) rest) (rest_in rest))
taken_below (Some row) cs rest len e h = refl
taken_below None (c ∷ cs) None len e h = refl
taken_below None (c ∷ cs) (Some b) len e h = refl
taken_below None [] rest len e h = let no : nat_eq 0 0 ≡ false = subst (λ n. nat_eq n 0 ≡ false) e (sym h) in cc

-- branches tell how they are kept
pub kept_as : {R : Type 0} (cs ds : List (Child R)) → branches cs ≡ branches ds → cs ≡ ds
kept_as [] [] e = refl
kept_as [] (d ∷ ds) e = cc
kept_as (c ∷ cs) [] e = cc
kept_as (c ∷ cs) (d ∷ ds) e =
    let at : step_of c.step ≡ step_of d.step = cc in
    let there : c.node ≡ d.node = cc in
    let others : branches cs ≡ branches ds = cc in
    let step = step_same c.step d.step at in
    let rest = kept_as cs ds others in
    λ i. record { step = step i; node = there i } ∷ rest i

-- each of them is no larger than all
pub child_within : {R : Type 0} (n : ℕ) (cs : List (Child R)) (d : Child R) → n < length cs → tree_size (get_or cs n d).node ≤ children_size (branches cs)
child_within zero (c ∷ cs) d l = omega arith
child_within (suc n) (c ∷ cs) d l = let less = child_within n cs d (omega (arith, l)) in omega (arith, less)
child_within n [] d l = absurd (omega (arith, l))

-- no label stands after an index
no_labels : {R : Type 0} (n : ℕ) (children : Children R) → IsStepBelowAll (index n) children → labels_of children ≡ []
no_labels n none h = refl
no_labels n (child (label text) tree children) h = let e = h.0 in cc
no_labels n (child (index m) tree children) h = no_labels n children h.1

-- the step is a label
abbrev pub is_label : Step → Bool
is_label (Label text) = true
is_label (Index n) = false

label_below : (x y : Step) → step_cmp (step_of x) (step_of y) ≡ Less → is_label y ≡ true → is_label x ≡ true
label_below (Label l) y h e = refl
label_below (Index m) (Index n) h e = e
label_below (Index m) (Label l) h e = cc

module _ {R : Type 0} where
  -- where an index stands first, there is no label
  pub no_labels_left :
      (P : R → Type 0) (all rest : List (Child R)) (c : Child R) (n : ℕ) (labels : List (List ℕ × Tree R))
      → all ≡ c ∷ rest → c.step ≡ Index n → labels_of (branches all) ≡ labels → AreBranches P (branches all) → labels ≡ []
  no_labels_left P all rest c n labels e i v h =
      let form : AreBranches P (branches (c ∷ rest)) = subst (λ cs. AreBranches P (branches cs)) e h in
      let after : IsStepBelowAll (index n) (branches rest) = subst (λ s. IsStepBelowAll (step_of s) (branches rest)) i form.0 in
      sym v ∙ ap (λ cs. labels_of (branches cs)) e ∙ ap (λ s. labels_of (child (step_of s) c.node (branches rest))) i
      ∙ no_labels n (branches rest) after

  -- labels come first
  pub labels_first : (cs : List (Child R)) → StepsRise (branches cs) → IsPartitionedBy (λ c. is_label c.step) cs
  labels_first [] h i j d le lt e = absurd (omega arith)
  labels_first (c ∷ cs) h zero zero d le lt e = e
  labels_first (c ∷ cs) h zero (suc j) d le lt e =
      label_below c.step (get_or cs j d).step (at_or_below (step_of c.step) cs j d h.0 (omega arith)) e
  labels_first (c ∷ cs) h (suc i) zero d le lt e = absurd (omega arith)
  labels_first (c ∷ cs) h (suc i) (suc j) d le lt e = labels_first cs h.1 i j d (omega arith) (omega arith) e

  below_last : (s : paths.Step) (cs : List (Child R)) (c : Child R) → IsStepBelowAll s (branches (cs ++ c ∷ [])) → step_cmp s (step_of c.step) ≡ Less
  below_last s [] c h = h.0
  below_last s (d ∷ cs) c h = below_last s cs c h.1

  -- behind an element that stands last
  pub behind_index : (cs : List (Child R)) (c : Child R) (n : ℕ) → StepsRise (branches (cs ++ c ∷ [])) → step_of c.step ≡ index n → behind_last (branches (cs ++ c ∷ [])) ≡ n + 1
  behind_index [] c n h e = ap (λ s. behind_last (child s c.node none)) e ∙ omega arith
  behind_index (d ∷ cs) c n h e = by (step_of d.step) refl (behind_index cs c n h.1 e)
    where
      by : (s : paths.Step) → step_of d.step ≡ s → behind_last (branches (cs ++ c ∷ [])) ≡ n + 1 → behind_last (child s d.node (branches (cs ++ c ∷ []))) ≡ n + 1
      by (label text) f others = others
      by (index i) f others =
          let low : step_cmp (step_of d.step) (step_of c.step) ≡ Less = below_last (step_of d.step) cs c h.0 in
          let less : nat_cmp i n ≡ Less = subst (λ s. step_cmp s (index n) ≡ Less) f (subst (λ s. step_cmp (step_of d.step) s ≡ Less) e low) in
          let under = before_less i n less in
          rw others (omega arith)

  -- where a label stands last, there is no element
  pub behind_label : (cs : List (Child R)) (c : Child R) (l : List ℕ) → StepsRise (branches (cs ++ c ∷ [])) → step_of c.step ≡ label l → behind_last (branches (cs ++ c ∷ [])) ≡ 0
  behind_label [] c l h e = ap (λ s. behind_last (child s c.node none)) e
  behind_label (d ∷ cs) c l h e = by (step_of d.step) refl (behind_label cs c l h.1 e)
    where
      by : (s : paths.Step) → step_of d.step ≡ s → behind_last (branches (cs ++ c ∷ [])) ≡ 0 → behind_last (child s d.node (branches (cs ++ c ∷ []))) ≡ 0
      by (label text) f others = others
      by (index i) f others =
          let low : step_cmp (step_of d.step) (step_of c.step) ≡ Less = below_last (step_of d.step) cs c h.0 in
          let less : step_cmp (index i) (label l) ≡ Less = subst (λ s. step_cmp s (label l) ≡ Less) f (subst (λ s. step_cmp (step_of d.step) s ≡ Less) e low) in
          cc

  -- the branches from a place on are in form
  pub form_from : (P : R → Type 0) (cs : List (Child R)) (k : ℕ) → AreBranches P (branches cs) → AreBranches P (branches (drop k cs))
  form_from P cs zero h = h
  form_from P [] (suc k) h = tt
  form_from P (c ∷ cs) (suc k) h = form_from P cs k h.3

  items_skip : (c : Child R) (cs : List (Child R)) → is_label c.step ≡ true → items_of (branches (c ∷ cs)) ≡ items_of (branches cs)
  items_skip c cs e = by c.step e
    where
      by : (s : Step) → is_label s ≡ true → items_of (child (step_of s) c.node (branches cs)) ≡ items_of (branches cs)
      by (Label text) e = refl
      by (Index n) e = cc

  -- what stands after the labels is all items
  pub items_from :
      (cs : List (Child R)) (k : ℕ) → IsPartitionPoint (λ c. is_label c.step ≡ true) (λ c. is_label c.step ≡ false) cs k
      → items_of (branches (drop k cs)) ≡ items_of (branches cs)
  items_from cs zero p = refl
  items_from [] (suc k) p = refl
  items_from (c ∷ cs) (suc k) p =
      items_from cs k (λ i d low lt. p.0 (suc i) d (omega arith) (omega arith), λ i d low lt. p.1 (suc i) d (omega arith) (omega arith))
      ∙ sym (items_skip c cs (p.0 0 c (omega arith) (omega arith)))

  starts_at : (c : Child R) (cs : List (Child R)) → is_label c.step ≡ false → StartsAtIndex (branches (c ∷ cs))
  starts_at c cs e = by c.step e
    where
      by : (s : Step) → is_label s ≡ false → StartsAtIndex (child (step_of s) c.node (branches cs))
      by (Label text) e = cc
      by (Index n) e = tt

  pub starts_from :
      (cs : List (Child R)) (k : ℕ) → IsPartitionPoint (λ c. is_label c.step ≡ true) (λ c. is_label c.step ≡ false) cs k
      → StartsAtIndex (branches (drop k cs))
  starts_from [] zero p = tt
  starts_from (c ∷ cs) zero p = starts_at c cs (p.1 0 c (omega arith) (omega arith))
  starts_from [] (suc k) p = tt
  starts_from (c ∷ cs) (suc k) p =
      starts_from cs k (λ i d low lt. p.0 (suc i) d (omega arith) (omega arith), λ i d low lt. p.1 (suc i) d (omega arith) (omega arith))
