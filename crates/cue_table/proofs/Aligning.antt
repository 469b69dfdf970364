-- Two places that are met as lists of equal length.
use Rattle.std.proofs.Common.{◌≡◌, ◌+◌, ◌<◌, ℕ, Option, Some, None, Bool, true, false, not, refl, sym, ap, subst, ◌∙◌, inl, inr, ⊎_elim}
use Rattle.std.specs.Option.{is_some}
use Rattle.std.proofs.lemmas.Bool.{cases_lt}
use Rattle.std.specs.Prelude.{Box}
use Rattle.std.specs.Global.{Global}
use Rattle.cue_lattice.specs.Path.{label, index, step_cmp, Path}
use Rattle.cue_table.specs.declared.node.Onward.{Onward}
use Rattle.cue_table.specs.declared.node.Node.TheInside.{Inside}
use Rattle.cue_table.specs.Tree.{Tree, Children, none, child, Rest, no_rest, onward, find, rest_at}
use Rattle.cue_table.specs.Depth.{tree_depth, rest_depth}
use Rattle.cue_table.specs.Form.{IsTableRow, IsTree, AreBranches, AreWithinDepth, IsRestOf, IsRowKept}
use Rattle.cue_table.specs.Meet.{IsMet, IsUnion}
use Rattle.cue_table.specs.Inner.Meet.{IsMerge}
use Rattle.cue_table.specs.Inner.Rests.{AreMetRests, BranchRefuses, IsBranch}
use Rattle.cue_table.specs.Inner.View.{below_in, branches, rest_in, tree_of}
use Rattle.cue_table.proofs.Behind.{none_from}
use Rattle.cue_table.proofs.Branches.{find_first, found_refuses, not_silent}
use Rattle.cue_table.proofs.Depth.{found_later}
use Rattle.cue_table.proofs.Finding.{find_form}

module _ {R : Type 0} where
  -- where each element that is found stands below an index, all do
  within_found : (P : R → Type 0) (n : ℕ) (children : Children R) → AreBranches P children → ((i : ℕ) (tree : Tree R) → find (index i) children ≡ Some tree → i < n) → AreWithinDepth n children
  within_found P n none h low = tt
  within_found P n (child (label text) tree children) h low =
      within_found P n children h.3 (λ i found e. low i found (found_later (label text) tree children h.0 (index i) found e (step_cmp (index i) (label text)) refl))
  within_found P n (child (index j) tree children) h low = (
    low j tree (find_first (index j) tree children),
    within_found P n children h.3 (λ i found e. low i found (found_later (index j) tree children h.0 (index i) found e (step_cmp (index i) (index j)) refl)),
  )

  -- the rest of a place in form is in form
  pub rest_branch : (P : R → Type 0) (children : Children R) (rest : Rest R) → IsRestOf P children rest → IsBranch P (rest_at rest)
  rest_branch P children no_rest h = tt
  rest_branch P children (onward n tree) h = (h.2, h.3)

module _ {R Q : Type 0} (refuses : R → Q → Type 0) (is_value : R → Type 0) where
  abbrev Kept : R → Type 0
  Kept = IsRowKept refuses is_value

  -- what is met has no element where neither of both has one
  pub merged_within : (n : ℕ) (left right met : Children R) → AreWithinDepth n left → AreWithinDepth n right → IsMerge refuses Kept left right met → AreWithinDepth n met
  merged_within n left right met h k merge = within_found Kept n met merge.form low
    where
      low : (i : ℕ) (tree : Tree R) → find (index i) met ≡ Some tree → i < n
      low i tree e = elim (cases_lt i n) [
        | inl less ↦ less
        | inr more ↦
            let found = find_form Kept (index i) met tree merge.form e in
            absurd (not_silent refuses is_value tree found.0 found.1 (λ path question r.
            ⊎_elim
            (λ x. found_refuses refuses (find (index i) left) None (none_from n i left more h) path question x)
            (λ x. found_refuses refuses (find (index i) right) None (none_from n i right more k) path question x)
            ((merge.refused (index i) path question).0 (found_refuses refuses (Some tree) (find (index i) met) (sym e) path question r))))
      ]

module _ {R Q : Type 0} (refuses : R → Q → Type 0) where
  pub union_as :
      (a b c x y z : Option (Tree R)) (path : Path) → a ≡ x → b ≡ y → c ≡ z → IsUnion (BranchRefuses refuses x path) (BranchRefuses refuses y path) (BranchRefuses refuses z path)
      → IsUnion (BranchRefuses refuses a path) (BranchRefuses refuses b path) (BranchRefuses refuses c path)
  union_as a b c x y z path e f g h =
      subst (λ o. IsUnion (BranchRefuses refuses o path) (BranchRefuses refuses b path) (BranchRefuses refuses c path)) (sym e)
      (subst (λ o. IsUnion (BranchRefuses refuses x path) (BranchRefuses refuses o path) (BranchRefuses refuses c path)) (sym f)
      (subst (λ o. IsUnion (BranchRefuses refuses x path) (BranchRefuses refuses y path) (BranchRefuses refuses o path)) (sym g) h))

module _ {R Q : Type 0} where
  -- the parts of a node in form are in form
  pub node_form : (P : R → Type 0) (a : Inside R Q) (tree : Tree R) → tree_of a ≡ tree → IsTree P tree → IsTableRow P a.row × AreBranches P (below_in (branches a.children.items) a.rest) × IsRestOf P (below_in (branches a.children.items) a.rest) (rest_in a.rest)
  node_form P a tree e h = let here : IsTree P (tree_of a) = subst (IsTree P) (sym e) h in here

  -- what is boxed as the rest is the rest
  pub rest_is : (rest : Option (Box (Onward R Q) Global)) (b : Box (Onward R Q) Global) (v : Onward R Q) → rest ≡ Some b → v ≡ b.value → (rest_at (rest_in rest) ≡ Some v.node) × (rest_depth (rest_in rest) ≡ tree_depth v.node + 1)
  rest_is rest b v e f = (
    ap (λ r. rest_at (rest_in r)) e ∙ ap (λ o. Some o.node) (sym f),
    ap (λ r. rest_depth (rest_in r)) e ∙ ap (λ o. tree_depth o.node + 1) (sym f),
  )

  -- where nothing is there, nothing is the rest
  pub no_rest_there : (rest : Option (Box (Onward R Q) Global)) → is_some rest ≡ false → rest_in rest ≡ no_rest
  no_rest_there None e = refl
  no_rest_there (Some b) e = cc

module _ {R Q : Type 0} (refuses : R → Q → Type 0) where
  -- two rests that are there
  pub rests_met : (o p : Option (Tree R)) (a b met : Tree R) → o ≡ Some a → p ≡ Some b → IsMet refuses a b met → AreMetRests refuses o p (Some met)
  rests_met o p a b met e f h path = union_as refuses o p (Some met) (Some a) (Some b) (Some met) path e f refl (h path)

module _ {R Q : Type 0} where
  pub none_there : (rest : Option (Box (Onward R Q) Global)) (is_none : Bool) → is_none ≡ true → is_some rest ≡ not is_none → rest_in rest ≡ no_rest
  none_there rest is_none e h = no_rest_there rest (h ∙ ap not e)
