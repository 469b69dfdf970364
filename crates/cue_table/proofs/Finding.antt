-- What a binary search among the branches of a node finds.
use Rattle.std.proofs.Common.{◌≡◌, Bool, true, false, nat_lt, if◌then◌else◌, ℕ, zero, suc, ◌<◌, ◌≤◌, ◌+◌, List, [], ◌∷◌, length, map, drop, drop-cons, add-one, get_or, Result, Ok, Err, Option, Some, None, refl, sym, subst, ap, ◌∙◌, arith, ⊎_elim}
use Rattle.std.specs.Option.{option_and_then}
use Rattle.std.specs.Result.{MatchResult}
use Rattle.std.proofs.lemmas.Bool.{cases_lt}
use Rattle.std.specs.Ordering.{ordering_index, ordering_reverse}
use Rattle.std.specs.declared.cmp.Ordering.{Ordering}
use Rattle.std.specs.declared.cmp.Ordering.TheVariants.{Less, Equal, Greater}
use Rattle.std.specs.List.Sorted.{IsNonDecreasingBy, IsBinarySearchResult, IsSearchInRange}
use Rattle.cue_lattice.specs.Path.{Step, label, index, step_cmp}
use Rattle.cue_row.specs.Steps.{step_of}
use Rattle.cue_row.specs.declared.step.Step as steps
use Rattle.cue_table.specs.Tree.{Tree, node, Children, none, child, Rest, no_rest, onward, below, find, find_with, step_into, if_equal, branch_at}
use Rattle.cue_table.specs.Form.{IsStepBelowAll, IsTreeTaken, IsTree, AreBranches, IsRestOf}
use Rattle.cue_table.specs.Inner.Form.{StepsRise}
use Rattle.cue_table.specs.Inner.Place.{AreBefore, IsPlace, IsGap}
use Rattle.cue_table.specs.Inner.Parts.{branches_past}
use Rattle.cue_table.specs.Inner.View.{branches}
use Rattle.cue_table.specs.Inner.Child.{Child}
use Rattle.cue_table.proofs.Order.{step_total, equal_steps}

-- two steps compare the other way round when they are exchanged
pub reverse_cmp : (x y : Step) (o : Ordering) → step_cmp x y ≡ o → step_cmp y x ≡ ordering_reverse o
reverse_cmp x y o h = step_total.antisymm y x ∙ ap ordering_reverse h

-- a step compares as equal with itself
pub same_step : (x : Step) → step_cmp x x ≡ Equal
same_step x = by (step_cmp x x) refl
  where
    by : (o : Ordering) → step_cmp x x ≡ o → step_cmp x x ≡ Equal
    by Less e = let other = reverse_cmp x x Less e in cc
    by Equal e = e
    by Greater e = let other = reverse_cmp x x Greater e in cc

-- the steps of branches rise where the branches are in form
pub branches_rise : {R : Type 0} (P : R → Type 0) (children : Children R) → AreBranches P children → StepsRise children
branches_rise P none h = tt
branches_rise P (child step tree children) h = (h.0, branches_rise P children h.3)

-- what stands first has the lowest rank
first_rank : (x step y : Step) → step_cmp x y ≡ Less → (o : Ordering) → step_cmp x step ≡ o → ordering_index o ≤ ordering_index (step_cmp y step)
first_rank x step y h Less e = omega arith
first_rank x step y h Equal e =
    let f : step_cmp y step ≡ Greater = subst (λ z. step_cmp y z ≡ Greater) (equal_steps x step e) (reverse_cmp x y Less h) in
    rw f (omega arith)
first_rank x step y h Greater e =
    let f : step_cmp step y ≡ Less = step_total.trans step x y (reverse_cmp x step Greater e) h in
    rw (reverse_cmp step y Less f) (omega arith)

-- nothing is found where the first is not meant, and nothing after it
none_here : {R : Type 0} (o : Ordering) (tree : Tree R) (other : Option (Tree R)) → (o ≡ Equal → ⊥) → other ≡ None → if_equal o tree other ≡ None
none_here Less tree other h e = e
none_here Equal tree other h e = absurd (h refl)
none_here Greater tree other h e = e

module _ {R : Type 0} where
  -- the place of a branch, by how its step compares with the wanted one
  abbrev rank : Step → Child R → ℕ
  rank step c = ordering_index (step_cmp (step_of c.step) step)

  -- what is below all is below each
  pub at_or_below : (x : Step) (cs : List (Child R)) (k : ℕ) (d : Child R) → IsStepBelowAll x (branches cs) → k < length cs → step_cmp x (step_of (get_or cs k d).step) ≡ Less
  at_or_below x [] k d b l = absurd (omega arith)
  at_or_below x (c ∷ cs) zero d b l = b.0
  at_or_below x (c ∷ cs) (suc k) d b l = at_or_below x cs k d b.1 (omega arith)

  ranks_ascend : (cs : List (Child R)) (step : Step) → StepsRise (branches cs) → IsNonDecreasingBy (rank step) cs
  ranks_ascend [] step a i j d h l = absurd (omega arith)
  ranks_ascend (c ∷ cs) step a zero zero d h l = omega arith
  ranks_ascend (c ∷ cs) step a zero (suc j) d h l =
      first_rank (step_of c.step) step (step_of (get_or cs j d).step) (at_or_below (step_of c.step) cs j d a.0 (omega arith)) (step_cmp (step_of c.step) step) refl
  ranks_ascend (c ∷ cs) step a (suc i) zero d h l = absurd (omega arith)
  ranks_ascend (c ∷ cs) step a (suc i) (suc j) d h l = ranks_ascend cs step a.1 i j d (omega arith) (omega arith)

  -- a branch is found at its step
  pub find_at : (cs : List (Child R)) (step : Step) (k : ℕ) (d : Child R) → StepsRise (branches cs) → k < length cs → step ≡ step_of (get_or cs k d).step → find step (branches cs) ≡ Some (get_or cs k d).node
  find_at [] step k d a l e = absurd (omega arith)
  find_at (c ∷ cs) step zero d a l e =
      ap (λ o. if_equal o c.node (find step (branches cs))) (subst (λ s. step_cmp step s ≡ Equal) e (same_step step))
  find_at (c ∷ cs) step (suc k) d a l e =
      let low : step_cmp (step_of c.step) step ≡ Less =
      subst (λ s. step_cmp (step_of c.step) s ≡ Less) (sym e) (at_or_below (step_of c.step) cs k d a.0 (omega arith)) in
      ap (λ o. if_equal o c.node (find step (branches cs))) (reverse_cmp (step_of c.step) step Less low)
      ∙ find_at cs step k d a.1 (omega arith) e

  -- no branch is found at a step that none has
  pub find_none : (cs : List (Child R)) (step : Step) → ((k : ℕ) (d : Child R) → k < length cs → step_cmp step (step_of (get_or cs k d).step) ≡ Equal → ⊥) → find step (branches cs) ≡ None
  find_none [] step h = refl
  find_none (c ∷ cs) step h =
      none_here (step_cmp step (step_of c.step)) c.node (find step (branches cs)) (λ e. h 0 c (omega arith) e)
      (find_none cs step (λ k d l e. h (suc k) d (omega arith) e))

  -- what stands before a branch is before its step
  before_found : (cs : List (Child R)) (step : Step) (k : ℕ) → StepsRise (branches cs) → k < length cs → ((d : Child R) → step_of (get_or cs k d).step ≡ step) → AreBefore k step (branches cs)
  before_found cs step zero a l e = tt
  before_found [] step (suc k) a l e = absurd (omega arith)
  before_found (c ∷ cs) step (suc k) a l e = (
    subst (λ s. step_cmp (step_of c.step) s ≡ Less) (e c) (at_or_below (step_of c.step) cs k c a.0 (omega arith)),
    before_found cs step k a.1 (omega arith) e,
  )

  -- what is below a step by place stands before it
  before_gap : (cs : List (Child R)) (step : Step) (n : ℕ) → n ≤ length cs → ((k : ℕ) (d : Child R) → k < n → step_cmp (step_of (get_or cs k d).step) step ≡ Less) → AreBefore n step (branches cs)
  before_gap cs step zero l h = tt
  before_gap [] step (suc n) l h = absurd (omega arith)
  before_gap (c ∷ cs) step (suc n) l h = (h 0 c (omega arith), before_gap cs step n (omega arith) (λ k d less. h (suc k) d (omega arith)))

  -- what is above a step by place is above it
  after_gap : (cs : List (Child R)) (step : Step) (n : ℕ) → ((k : ℕ) (d : Child R) → n ≤ k → k < length cs → step_cmp (step_of (get_or cs k d).step) step ≡ Greater) → IsStepBelowAll step (branches_past n (branches cs))
  after_gap [] step zero h = tt
  after_gap (c ∷ cs) step zero h = (
    reverse_cmp (step_of c.step) step Greater (h 0 c (omega arith) (omega arith)),
    after_gap cs step zero (λ k d low less. h (suc k) d (omega arith) (omega arith)),
  )
  after_gap [] step (suc n) h = tt
  after_gap (c ∷ cs) step (suc n) h = after_gap cs step n (λ k d low less. h (suc k) d (omega arith) (omega arith))

  -- a branch in range that stands at the step is the one there
  pub place_known : (cs : List (Child R)) (step : Step) (at : ℕ) → StepsRise (branches cs) → at < length cs → ((d : Child R) → step_of (get_or cs at d).step ≡ step) → IsPlace cs step at
  place_known cs step at a bound same = record {
    in_range = bound;
    is_there = λ d. find_at cs step at d a bound (sym (same d));
    at_step = same;
    before = before_found cs step at a bound same;
  }

  -- what a binary search by the steps answers
  pub place_searched :
      (cs : List (Child R)) (step : Step) (r : Result ℕ ℕ) → StepsRise (branches cs) → IsSearchInRange r (length cs)
      → IsBinarySearchResult (λ c. step_cmp (step_of c.step) step) cs r
      → MatchResult r (IsPlace cs step) (IsGap cs step)
  place_searched cs step (Ok at) a bound found =
      place_known cs step at a bound (λ d. equal_steps _ step (found d))
  place_searched cs step (Err at) a bound found =
      let point = found (ranks_ascend cs step a) in
      record {
        in_range = bound;
        absent = find_none cs step (λ k d l e. ⊎_elim
            (λ h. let low : step_cmp (step_of (get_or cs k d).step) step ≡ Less = point.0 k d (omega arith) h in let same = reverse_cmp step _ Equal e in cc)
            (λ h. let high : step_cmp (step_of (get_or cs k d).step) step ≡ Greater = point.1 k d h l in let same = reverse_cmp step _ Equal e in cc)
            (cases_lt k at));
        before = before_gap cs step at bound (λ k d l. point.0 k d (omega arith) l);
        after = after_gap cs step at (λ k d low l. point.1 k d low l);
      }

-- what is found is the branch at hand, or found further on
pub found_here : {R : Type 0} (P : Tree R → Type 0) (o : Ordering) (here : Tree R) (other : Option (Tree R)) (tree : Tree R) → P here → (other ≡ Some tree → P tree) → if_equal o here other ≡ Some tree → P tree
found_here P Less here other tree h k e = k e
found_here P Equal here other tree h k e = let same : here ≡ tree = cc in subst P same h
found_here P Greater here other tree h k e = k e

-- where a branch is found, it is in form and not empty
pub find_form : {R : Type 0} (P : R → Type 0) (step : Step) (children : Children R) (tree : Tree R) → AreBranches P children → find step children ≡ Some tree → IsTreeTaken tree × IsTree P tree
find_form P step none tree h e = cc
find_form P step (child next here children) tree h e =
    found_here (λ t. IsTreeTaken t × IsTree P t) (step_cmp step next) here (find step children) tree (h.1, h.2)
    (λ f. find_form P step children tree h.3 f) e

-- the steps of the branches rise where the tree is in form
pub tree_rises : {R : Type 0} (P : R → Type 0) (tree : Tree R) → IsTree P tree → StepsRise (below tree)
tree_rises P (node row children rest) h = branches_rise P children h.1

-- what is found among the elements of a list or is its rest
found_else : {R : Type 0} (P : Tree R → Type 0) (b : Bool) (own : Option (Tree R)) (rest next : Tree R) → (own ≡ Some next → P next) → P rest → (if b then own else Some rest) ≡ Some next → P next
found_else P true own rest next h k e = h e
found_else P false own rest next h k e = let same : rest ≡ next = cc in subst P same k

found_with : {R : Type 0} (P : R → Type 0) (rest : Rest R) (step : Step) (children : Children R) (next : Tree R) → AreBranches P children → IsRestOf P children rest → find_with rest step children ≡ Some next → IsTreeTaken next × IsTree P next
found_with P no_rest step children next h k e = find_form P step children next h e
found_with P (onward n tree) (label text) children next h k e = find_form P (label text) children next h e
found_with P (onward n tree) (index i) children next h k e =
    found_else (λ t. IsTreeTaken t × IsTree P t) (nat_lt i n) (find (index i) children) tree next (λ f. find_form P (index i) children next h f) (k.2, k.3) e

-- where a branch of a tree in form is found, it is in form and not empty
pub found_form : {R : Type 0} (P : R → Type 0) (step : Step) (tree next : Tree R) → IsTree P tree → step_into tree step ≡ Some next → IsTreeTaken next × IsTree P next
found_form P step (node row children rest) next h e = found_with P rest step children next h.1 h.2 e

-- one step further along a path
pub walk_on :
    {R : Type 0} (P : R → Type 0) (tree next : Tree R) (path : List steps.Step) (k : ℕ) (step : steps.Step) (found : Option (Tree R))
    → IsTree P tree → k < length path → step ≡ get_or path k step → Some next ≡ step_into tree (step_of step)
    → branch_at tree (map step_of (drop k path)) ≡ found
    → IsTree P next × (branch_at next (map step_of (drop (k + 1) path)) ≡ found)
walk_on P tree next path k step found h l i e r =
    let cut : drop k path ≡ get_or path k step ∷ drop (suc k) path = drop-cons path k step l in
    let split : map step_of (drop k path) ≡ step_of step ∷ map step_of (drop (suc k) path) =
    ap (map step_of) cut ∙ ap (λ s. step_of s ∷ map step_of (drop (suc k) path)) (sym i) in
    let here : branch_at tree (step_of step ∷ map step_of (drop (suc k) path)) ≡ found =
    sym (ap (branch_at tree) split) ∙ r in (
      (found_form P (step_of step) tree next h (sym e)).1,
      rw add-one (ap (option_and_then (λ branch. branch_at branch (map step_of (drop (suc k) path)))) e ∙ here),
    )
