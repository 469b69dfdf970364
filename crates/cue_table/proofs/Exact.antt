-- Tables with equal answers are equal.
use Rattle.std.proofs.Common.{◌≡◌, ◌↔◌, ◌<◌, ◌≤◌, ◌+◌, nat_lt, Bool, true, false, if◌then◌else◌, ℕ, zero, suc, Option, Some, None, ◌∷◌, [], inl, inr, refl, sym, ap, subst, ◌∙◌, arith}
use Rattle.std.specs.declared.cmp.Ordering.{Ordering}
use Rattle.std.specs.declared.cmp.Ordering.TheVariants.{Less, Equal, Greater}
use Rattle.std.proofs.lemmas.Bool.{cases_lt}
use Rattle.cue_lattice.specs.Path.{Step, label, index, step_cmp, Path}
use Rattle.cue_lattice.specs.Pair.{IsExact}
use Rattle.cue_table.specs.Tree.{Tree, node, Children, none, child, Rest, no_rest, onward, if_equal, find, find_with, behind_last}
use Rattle.cue_table.specs.Refuses.{RowRefuses, TableRefuses}
use Rattle.cue_table.specs.Form.{IsStepBelowAll, IsTreeTaken, IsTableRow, IsTree, AreBranches, AreWithinDepth, DiffersFromRest, IsRestOf, IsRowKept}
use Rattle.cue_table.specs.Inner.Form.{StepsRise}
use Rattle.cue_table.proofs.Order.{equal_steps}
use Rattle.cue_table.proofs.Finding.{reverse_cmp, branches_rise}
use Rattle.cue_table.proofs.Branches.{find_first, find_before, find_past, find_below, below_all, find_rest, find_fixed, FoundRefuses, not_silent}

module _ {R : Type 0} where
  some_none : (t : Tree R) (o : Option (Tree R)) → o ≡ Some t → o ≡ None → ⊥
  some_none t o e f = cc

  abbrev or_else : Tree R → Option (Tree R) → Tree R
  or_else d None = d
  or_else d (Some t) = t

  -- the branches after the first of two lists that begin alike
  others_same :
      (s : Step) (t v : Tree R) (cs ds : Children R) → IsStepBelowAll s cs → IsStepBelowAll s ds → ((x : Step) → find x (child s t cs) ≡ find x (child s v ds))
      → (x : Step) (o : Ordering) → step_cmp x s ≡ o → find x cs ≡ find x ds
  others_same s t v cs ds h k same x Less e = sym (find_before x s t cs e) ∙ same x ∙ find_before x s v ds e
  others_same s t v cs ds h k same x Greater e = sym (find_past x s t cs e) ∙ same x ∙ find_past x s v ds e
  others_same s t v cs ds h k same x Equal e =
      ap (λ y. find y cs) (equal_steps x s e) ∙ find_below s cs h ∙ sym (find_below s ds k) ∙ sym (ap (λ y. find y ds) (equal_steps x s e))

  equal_step :
      (s : Step) (t : Tree R) (cs : Children R) (u : Step) (v : Tree R) (ds : Children R) → StepsRise (child s t cs) → StepsRise (child u v ds)
      → ((x : Step) → find x (child s t cs) ≡ find x (child u v ds)) → (((x : Step) → find x cs ≡ find x ds) → cs ≡ ds)
      → (o : Ordering) → step_cmp s u ≡ o → child s t cs ≡ child u v ds
  equal_step s t cs u v ds h k same others Less e =
      absurd (some_none t (find s (child u v ds)) (sym (same s) ∙ find_first s t cs) (find_below s (child u v ds) (e, below_all s u ds e k.0)))
  equal_step s t cs u v ds h k same others Greater e =
      let low : step_cmp u s ≡ Less = reverse_cmp s u Greater e in
      absurd (some_none v (find u (child s t cs)) (same u ∙ find_first u v ds) (find_below u (child s t cs) (low, below_all u s cs low h.0)))
  equal_step s t cs u v ds h k same others Equal e =
      let steps : s ≡ u = equal_steps s u e in
      let alike : (x : Step) → find x (child s t cs) ≡ find x (child s v ds) = subst (λ y. (x : Step) → find x (child s t cs) ≡ find x (child y v ds)) (sym steps) same in
      let above : IsStepBelowAll s ds = subst (λ y. IsStepBelowAll y ds) (sym steps) k.0 in
      let branch : t ≡ v = ap (or_else t) (sym (find_first s t cs) ∙ alike s ∙ find_first s v ds) in
      let left : cs ≡ ds = others (λ x. others_same s t v cs ds h.0 above alike x (step_cmp x s) refl) in
      λ i. child (steps i) (branch i) (left i)

  -- lists of branches that find the same are the same
  pub equal_children : (cs ds : Children R) → StepsRise cs → StepsRise ds → ((x : Step) → find x cs ≡ find x ds) → cs ≡ ds
  equal_children none none h k same = refl
  equal_children none (child u v ds) h k same = absurd (some_none v (find u (child u v ds)) (find_first u v ds) (sym (same u)))
  equal_children (child s t cs) none h k same = absurd (some_none t (find s (child s t cs)) (find_first s t cs) (same s))
  equal_children (child s t cs) (child u v ds) h k same =
      equal_step s t cs u v ds h k same (λ alike. equal_children cs ds h.1 k.1 alike) (step_cmp s u) refl

  -- where all elements stand below an index, none is found from there on
  pub none_within : (n i : ℕ) (cs : Children R) → AreWithinDepth n cs → n ≤ i → find (index i) cs ≡ None
  none_within n i none h l = refl
  none_within n i (child (label text) t cs) h l = none_within n i cs h l
  none_within n i (child (index j) t cs) h l = by (step_cmp (index i) (index j)) refl (none_within n i cs h.1 l)
    where
      by : (o : Ordering) → step_cmp (index i) (index j) ≡ o → find (index i) cs ≡ None → find (index i) (child (index j) t cs) ≡ None
      by Less e k = find_before (index i) (index j) t cs e ∙ k
      by Greater e k = find_past (index i) (index j) t cs e ∙ k
      by Equal e k = let same : index i ≡ index j = equal_steps (index i) (index j) e in let number : i ≡ j = cc in absurd (omega (arith, h.0))

  -- all elements stand below the index behind the last one
  pub within_last : (n : ℕ) (cs : Children R) → behind_last cs ≤ n → AreWithinDepth n cs
  within_last n none l = tt
  within_last n (child (label text) t cs) l = within_last n cs l
  within_last n (child (index j) t cs) l = (omega arith, within_last n cs (omega arith))

  abbrev SameSteps : Children R → Rest R → Children R → Rest R → Type 0
  SameSteps cs q ds r = (step : Step) → find_with q step cs ≡ find_with r step ds

  -- the rest of the one is not silent in the other
  no_rest_there : (cs : Children R) (n : ℕ) (v : Tree R) (ds : Children R) → SameSteps cs no_rest ds (onward n v) → ⊥
  no_rest_there cs n v ds same =
      let far = behind_last cs + n in
      some_none v (find (index far) cs) (same (index far) ∙ find_rest n v ds far (omega arith)) (none_within far far cs (within_last far cs (omega arith)) (omega arith))

  -- rests that begin at different indexes differ in the element before the later one
  no_later : (m n : ℕ) (t v : Tree R) (cs ds : Children R) → DiffersFromRest n v ds → SameSteps cs (onward m t) ds (onward n v) → t ≡ v → m < n → ⊥
  no_later m zero t v cs ds d same e l = absurd (omega arith)
  no_later m (suc i) t v cs ds d same e l =
      d (sym (find_fixed (suc i) v ds i (omega arith)) ∙ sym (same (index i)) ∙ find_rest m t cs i (omega arith) ∙ ap Some e)

  same_find :
      (m n : ℕ) (t v : Tree R) (cs ds : Children R) → m ≡ n → AreWithinDepth m cs → AreWithinDepth n ds
      → SameSteps cs (onward m t) ds (onward n v) → (step : Step) → find step cs ≡ find step ds
  same_find m n t v cs ds e h k same (label text) = same (label text)
  same_find m n t v cs ds e h k same (index i) = elim (cases_lt i m) [
    | inl low ↦ sym (find_fixed m t cs i low) ∙ same (index i) ∙ find_fixed n v ds i (omega arith)
    | inr high ↦ none_within m i cs h high ∙ sym (none_within n i ds k (omega arith))
  ]

  -- places where the same is found at each step have the same branches and the same rest
  pub equal_below :
      (P : R → Type 0) (cs ds : Children R) (q r : Rest R) → AreBranches P cs → AreBranches P ds → IsRestOf P cs q → IsRestOf P ds r
      → SameSteps cs q ds r → (cs ≡ ds) × (q ≡ r)
  equal_below P cs ds no_rest no_rest h k x y same = (equal_children cs ds (branches_rise P cs h) (branches_rise P ds k) same, refl)
  equal_below P cs ds no_rest (onward n v) h k x y same = absurd (no_rest_there cs n v ds same)
  equal_below P cs ds (onward m t) no_rest h k x y same = absurd (no_rest_there ds m t cs (λ step. sym (same step)))
  equal_below P cs ds (onward m t) (onward n v) h k x y same =
      let far = m + n in
      let tree : t ≡ v = ap (or_else t) (sym (find_rest m t cs far (omega arith)) ∙ same (index far) ∙ find_rest n v ds far (omega arith)) in
      let number : m ≡ n = elim (cases_lt m n) [
        | inl l ↦ absurd (no_later m n t v cs ds y.1 same tree l)
        | inr l ↦ elim (cases_lt n m) [
          | inl g ↦ absurd (no_later n m v t ds cs x.1 (λ step. sym (same step)) (sym tree) g)
          | inr g ↦ omega arith
        ]
      ] in
      (equal_children cs ds (branches_rise P cs h) (branches_rise P ds k) (same_find m n t v cs ds number x.0 y.0 same), λ i. onward (number i) (tree i))

module _ {R Q : Type 0} (refuses : R → Q → Type 0) (is_value : R → Type 0) where
  abbrev Kept : R → Type 0
  Kept = IsRowKept refuses is_value

  abbrev SameRefusals : Tree R → Tree R → Type 0
  SameRefusals a b = (path : Path) (question : Q) → TableRefuses refuses a path question ↔ TableRefuses refuses b path question

  abbrev pub FoundSame : Option (Tree R) → Option (Tree R) → Type 0
  FoundSame a b = (path : Path) (question : Q) → FoundRefuses refuses a path question ↔ FoundRefuses refuses b path question

  -- what may be found: a tree in form that is not empty
  abbrev pub IsFound : Option (Tree R) → Type 0
  IsFound None = Unit {0}
  IsFound (Some tree) = IsTreeTaken tree × IsTree Kept tree

  found_by : (o : Ordering) (t : Tree R) (other : Option (Tree R)) → IsTreeTaken t × IsTree Kept t → IsFound other → IsFound (if_equal o t other)
  found_by Less t other h k = k
  found_by Equal t other h k = h
  found_by Greater t other h k = k

  found : (s : Step) (cs : Children R) → AreBranches Kept cs → IsFound (find s cs)
  found s none h = tt
  found s (child u t cs) h = found_by (step_cmp s u) t (find s cs) (h.1, h.2) (found s cs h.3)

  found_if : (b : Bool) (own : Option (Tree R)) (t : Tree R) → IsFound own → IsTreeTaken t × IsTree Kept t → IsFound (if b then own else Some t)
  found_if true own t h k = h
  found_if false own t h k = k

  found_with : (r : Rest R) (s : Step) (cs : Children R) → AreBranches Kept cs → IsRestOf Kept cs r → IsFound (find_with r s cs)
  found_with no_rest s cs h k = found s cs h
  found_with (onward n t) (label text) cs h k = found (label text) cs h
  found_with (onward n t) (index i) cs h k = found_if (nat_lt i n) (find (index i) cs) t (found (index i) cs h) (k.2, k.3)

  module _ (exact : IsExact refuses is_value) where
    exact_row : (q r : Option R) → IsTableRow Kept q → IsTableRow Kept r → ((question : Q) → RowRefuses refuses q question ↔ RowRefuses refuses r question) → q ≡ r
    exact_row None None h k same = refl
    exact_row (Some q) (Some r) h k same = ap Some (exact q r h.0 k.0 same)
    exact_row None (Some r) h k same = absurd (k.1 (λ question. (same question).1))
    exact_row (Some q) None h k same = absurd (h.1 (λ question. (same question).0))

    -- the tree is told by its answers
    abbrev IsTold : Tree R → Type 0
    IsTold t = (v : Tree R) → IsTree Kept v → SameRefusals t v → t ≡ v

    abbrev AreTold : Children R → Type 0
    AreTold none = Unit {0}
    AreTold (child s t cs) = IsTold t × AreTold cs

    abbrev IsRestTold : Rest R → Type 0
    IsRestTold no_rest = Unit {0}
    IsRestTold (onward n t) = IsTold t

    abbrev IsToldIf : Option (Tree R) → Type 0
    IsToldIf None = Unit {0}
    IsToldIf (Some t) = IsTold t

    told_by : (o : Ordering) (t : Tree R) (other : Option (Tree R)) → IsTold t → IsToldIf other → IsToldIf (if_equal o t other)
    told_by Less t other h k = k
    told_by Equal t other h k = h
    told_by Greater t other h k = k

    told_at : (s : Step) (cs : Children R) → AreTold cs → IsToldIf (find s cs)
    told_at s none h = tt
    told_at s (child u t cs) h = told_by (step_cmp s u) t (find s cs) h.0 (told_at s cs h.1)

    told_if : (b : Bool) (own : Option (Tree R)) (t : Tree R) → IsToldIf own → IsTold t → IsToldIf (if b then own else Some t)
    told_if true own t h k = h
    told_if false own t h k = k

    told_with : (r : Rest R) (s : Step) (cs : Children R) → AreTold cs → IsRestTold r → IsToldIf (find_with r s cs)
    told_with no_rest s cs h k = told_at s cs h
    told_with (onward n t) (label text) cs h k = told_at (label text) cs h
    told_with (onward n t) (index i) cs h k = told_if (nat_lt i n) (find (index i) cs) t (told_at (index i) cs h) k

    exact_found : (o p : Option (Tree R)) → IsFound o → IsFound p → IsToldIf o → FoundSame o p → o ≡ p
    exact_found None None h k told same = refl
    exact_found (Some t) None h k told same = absurd (not_silent refuses is_value t h.0 h.1 (λ path question. (same path question).0))
    exact_found None (Some v) h k told same = absurd (not_silent refuses is_value v k.0 k.1 (λ path question. (same path question).1))
    exact_found (Some t) (Some v) h k told same = ap Some (told v k.1 same)

    mutual
      -- trees in form with equal answers are equal
      pub exact_tree : (a b : Tree R) → IsTree Kept a → IsTree Kept b → SameRefusals a b → a ≡ b
      exact_tree (node p cs q) (node s ds r) h k same =
          let row = exact_row p s h.0 k.0 (λ question. same [] question) in
          let children = all_told cs h.1 in
          let rest = rest_told cs q h.2 in
          let below =
          equal_below Kept cs ds q r h.1 k.1 h.2 k.2
          (λ step. exact_found (find_with q step cs) (find_with r step ds) (found_with q step cs h.1 h.2) (found_with r step ds k.1 k.2)
          (told_with q step cs children rest) (λ path question. same (step ∷ path) question)) in
          λ i. node (row i) (below.0 i) (below.1 i)

      all_told : (cs : Children R) → AreBranches Kept cs → AreTold cs
      all_told none h = tt
      all_told (child s t cs) h = (λ v k same. exact_tree t v h.2 k same, all_told cs h.3)

      rest_told : (cs : Children R) (r : Rest R) → IsRestOf Kept cs r → IsRestTold r
      rest_told cs no_rest h = tt
      rest_told cs (onward n t) h = λ v k same. exact_tree t v h.3 k same

    found_told : (o : Option (Tree R)) → IsFound o → IsToldIf o
    found_told None h = tt
    found_told (Some t) h = λ v k same. exact_tree t v h.1 k same

    -- what is found with equal answers is the same
    pub exact_branch : (o p : Option (Tree R)) → IsFound o → IsFound p → FoundSame o p → o ≡ p
    exact_branch o p h k same = exact_found o p h k (found_told o h) same
