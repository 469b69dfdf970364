-- What a walk over the branches of a table needs: each is smaller than the tree, and their list is
-- the tree's.
use Rattle.std.specs.Prelude.{◌≡◌, ℕ, ◌+◌, ◌<◌, Bool, true, false, nat_lt, if◌then◌else◌, List, ◌∷◌}
use Rattle.std.specs.Prelude.{Option, Some, refl}
use Rattle.std.specs.List.{AllByRecursion}
use Rattle.std.specs.declared.cmp.Ordering.{Ordering}
use Rattle.std.specs.declared.cmp.Ordering.TheVariants.{Less, Equal, Greater}
use Rattle.std.proofs.Common.{arith, subst}
use Rattle.cue_lattice.specs.Path.{Step, label, index, step_cmp}
use Rattle.cue_table.specs.Tree.{Tree, node, Children, none, child, Rest, no_rest, onward, below}
use Rattle.cue_table.specs.Tree.{rest_below, if_equal, find, find_with, step_into, rest_at}
use Rattle.cue_table.specs.Tree.{children_of, labels_of, items_of}
use Rattle.cue_table.specs.Size.{tree_size, children_size, rest_size}

-- each of the branches is smaller than n
abbrev pub AreSmaller : {R S : Type 0} → ℕ → List (S × Tree R) → Type 0
AreSmaller n = AllByRecursion (λ item. tree_size item.1 < n)

module _ {R : Type 0} where
  -- branches are told by their list
  pub same_children : (a b : Children R) → children_of a ≡ children_of b → a ≡ b
  same_children none none e = refl
  same_children (child s t cs) (child u v ds) e =
      let one : Step × Tree R = (s, t) in
      let two : Step × Tree R = (u, v) in
      let head : one ≡ two = cc in
      let others : children_of cs ≡ children_of ds = cc in
      let left = same_children cs ds others in
      λ i. child (head i).0 (head i).1 (left i)
  same_children none (child u v ds) e = cc
  same_children (child s t cs) none e = cc

  -- the branches that are left tell the first one and the others
  pub first_child : (children rest : Children R) (step : Step) (tree : Tree R)
      → children_of children ≡ (step, tree) ∷ children_of rest → children ≡ child step tree rest
  first_child none rest step tree e = cc
  first_child (child s t cs) rest step tree e =
      let one : Step × Tree R = (s, t) in
      let two : Step × Tree R = (step, tree) in
      let head : one ≡ two = cc in
      let others : children_of cs ≡ children_of rest = cc in
      let left = same_children cs rest others in
      λ i. child (head i).0 (head i).1 (left i)

  smaller_labels : (n : ℕ) (children : Children R) → children_size children < n
      → AreSmaller n (labels_of children)
  smaller_labels n none h = tt
  smaller_labels n (child (label text) tree children) h =
      (omega arith, smaller_labels n children (omega arith))
  smaller_labels n (child (index number) tree children) h = smaller_labels n children (omega arith)

  smaller_items : (n : ℕ) (children : Children R) → children_size children < n
      → AreSmaller n (items_of children)
  smaller_items n none h = tt
  smaller_items n (child (label text) tree children) h = smaller_items n children (omega arith)
  smaller_items n (child (index number) tree children) h =
      (omega arith, smaller_items n children (omega arith))

  -- each branch at a label is smaller than its tree
  pub labels_smaller : (tree : Tree R) → AreSmaller (tree_size tree) (labels_of (below tree))
  labels_smaller (node row children rest) =
      smaller_labels (children_size children + rest_size rest + 1) children (omega arith)

  -- and each branch at an index
  pub items_smaller : (tree : Tree R) → AreSmaller (tree_size tree) (items_of (below tree))
  items_smaller (node row children rest) =
      smaller_items (children_size children + rest_size rest + 1) children (omega arith)

  smaller_found : (o : Ordering) (here tree : Tree R) (other : Option (Tree R)) (n : ℕ)
      → tree_size here < n → (other ≡ Some tree → tree_size tree < n)
      → if_equal o here other ≡ Some tree → tree_size tree < n
  smaller_found Less here tree other n h k e = k e
  smaller_found Equal here tree other n h k e =
      let same : here ≡ tree = cc in subst (λ t. tree_size t < n) same h
  smaller_found Greater here tree other n h k e = k e

  smaller_in : (n : ℕ) (step : Step) (children : Children R) (tree : Tree R)
      → children_size children < n → find step children ≡ Some tree → tree_size tree < n
  smaller_in n step none tree h e = cc
  smaller_in n step (child next here children) tree h e =
      smaller_found (step_cmp step next) here tree (find step children) n (omega arith)
      (λ f. smaller_in n step children tree (omega arith) f) e

  -- and the rest
  pub rest_smaller : (tree branch : Tree R) → rest_at (rest_below tree) ≡ Some branch
      → tree_size branch < tree_size tree
  rest_smaller (node row children no_rest) branch e = cc
  rest_smaller (node row children (onward n tree)) branch e =
      let same : tree ≡ branch = cc in
      subst (λ t. tree_size t < children_size children + tree_size tree + 1) same (omega arith)

  smaller_else : (b : Bool) (own : Option (Tree R)) (rest branch : Tree R) (n : ℕ)
      → (own ≡ Some branch → tree_size branch < n) → tree_size rest < n
      → (if b then own else Some rest) ≡ Some branch → tree_size branch < n
  smaller_else true own rest branch n f h e = f e
  smaller_else false own rest branch n f h e =
      let same : rest ≡ branch = cc in subst (λ t. tree_size t < n) same h

  smaller_with : (rest : Rest R) (step : Step) (children : Children R) (branch : Tree R)
      → find_with rest step children ≡ Some branch
      → tree_size branch < children_size children + rest_size rest + 1
  smaller_with no_rest step children branch e =
      smaller_in (children_size children + 0 + 1) step children branch (omega arith) e
  smaller_with (onward n tree) (label text) children branch e =
      smaller_in (children_size children + tree_size tree + 1) (label text) children branch
      (omega arith) e
  smaller_with (onward n tree) (index i) children branch e =
      smaller_else (nat_lt i n) (find (index i) children) tree branch
      (children_size children + tree_size tree + 1)
      (λ f. smaller_in (children_size children + tree_size tree + 1) (index i) children branch
      (omega arith) f) (omega arith) e

  -- and the branch that is found one step below
  pub found_smaller : (step : Step) (tree branch : Tree R) → step_into tree step ≡ Some branch
      → tree_size branch < tree_size tree
  found_smaller step (node row children rest) branch e = smaller_with rest step children branch e
