-- Two lists of branches as one, and elements that are alike.
use Rattle.std.proofs.Common.{◌≡◌, ◌+◌, ◌<◌, ◌≤◌, ℕ, zero, suc, List, Option, Some, None, refl, sym, ap, subst, ◌∙◌, rules, arith}
use Rattle.std.specs.Ordering.{nat_cmp}
use Rattle.std.specs.declared.cmp.Ordering.{Ordering}
use Rattle.std.specs.declared.cmp.Ordering.TheVariants.{Less, Equal, Greater}
use Rattle.cue_lattice.specs.Path.{Step, label, index, step_cmp}
use Rattle.cue_table.specs.Tree.{Tree, Children, none, child, if_equal, find}
use Rattle.cue_table.specs.Form.{IsStepBelowAll, IsTreeTaken, IsTree, AreBranches, AreWithinDepth}
use Rattle.cue_table.specs.Inner.Form.{StepsRise}
use Rattle.cue_table.specs.Spans.{alike_elements}
use Rattle.cue_table.specs.Inner.Join.{join_children}
use Rattle.cue_table.specs.Inner.Runs.{AreFrom}
use Rattle.cue_table.proofs.Branches.{find_first, find_before, find_past, own_below}

pub less_number : (i n : ℕ) → i < n → nat_cmp i n ≡ Less
less_number i n h = search rules

pub greater_number : (i n : ℕ) → n < i → nat_cmp i n ≡ Greater
greater_number i n h = search rules

number_greater : (i n : ℕ) → nat_cmp i n ≡ Greater → n < i
number_greater i n h = search rules

pub number_less : (i n : ℕ) → nat_cmp i n ≡ Less → i < n
number_less i n h = search rules

module _ {R : Type 0} where
  pub join_none : (a : Children R) → join_children a none ≡ a
  join_none none = refl
  join_none (child step tree children) = ap (child step tree) (join_none children)

  pub join_assoc : (a b c : Children R) → join_children (join_children a b) c ≡ join_children a (join_children b c)
  join_assoc none b c = refl
  join_assoc (child step tree children) b c = ap (child step tree) (join_assoc children b c)

  pub alike_join : (i m : ℕ) (tree : Tree R) (a b : Children R) → join_children (alike_elements i m tree a) b ≡ alike_elements i m tree (join_children a b)
  alike_join i zero tree a b = refl
  alike_join i (suc m) tree a b = ap (child (index i) tree) (alike_join (suc i) m tree a b)

  -- the first list's steps stand before those of the second
  abbrev pub AllBefore : Children R → Children R → Type 0
  AllBefore none b = Unit {0}
  AllBefore (child step tree children) b = IsStepBelowAll step b × AllBefore children b

  pub below_join : (s : Step) (a b : Children R) → IsStepBelowAll s a → IsStepBelowAll s b → IsStepBelowAll s (join_children a b)
  below_join s none b h k = k
  below_join s (child step tree children) b h k = (h.0, below_join s children b h.1 k)

  pub below_front : (s : Step) (a b : Children R) → IsStepBelowAll s (join_children a b) → IsStepBelowAll s a × IsStepBelowAll s b
  below_front s none b h = (tt, h)
  below_front s (child step tree children) b h = let more = below_front s children b h.1 in ((h.0, more.0), more.1)

  pub rise_parts : (a b : Children R) → StepsRise (join_children a b) → StepsRise a × StepsRise b
  rise_parts none b h = (tt, h)
  rise_parts (child step tree children) b h = let more = rise_parts children b h.1 in (((below_front step children b h.0).0, more.0), more.1)

  pub join_form : (P : R → Type 0) (a b : Children R) → AreBranches P a → AreBranches P b → AllBefore a b → AreBranches P (join_children a b)
  join_form P none b h k before = k
  join_form P (child step tree children) b h k before =
      (below_join step children b h.0 before.0, h.1, h.2, join_form P children b h.3 k before.1)

  pub join_parts : (P : R → Type 0) (a b : Children R) → AreBranches P (join_children a b) → AreBranches P a × AreBranches P b × AllBefore a b
  join_parts P none b h = (tt, h, tt)
  join_parts P (child step tree children) b h =
      let more = join_parts P children b h.3 in
      let low = below_front step children b h.0 in
      ((low.0, h.1, h.2, more.0), more.1, (low.1, more.2))

  pub within_join : (n : ℕ) (a b : Children R) → AreWithinDepth n a → AreWithinDepth n b → AreWithinDepth n (join_children a b)
  within_join n none b h k = k
  within_join n (child (label text) tree children) b h k = within_join n children b h k
  within_join n (child (index i) tree children) b h k = (h.0, within_join n children b h.1 k)

  pub within_parts : (n : ℕ) (a b : Children R) → AreWithinDepth n (join_children a b) → AreWithinDepth n a × AreWithinDepth n b
  within_parts n none b h = (tt, h)
  within_parts n (child (label text) tree children) b h = within_parts n children b h
  within_parts n (child (index i) tree children) b h = let more = within_parts n children b h.1 in ((h.0, more.0), more.1)

  pub from_join : (n : ℕ) (a b : Children R) → AreFrom n a → AreFrom n b → AreFrom n (join_children a b)
  from_join n none b h k = k
  from_join n (child (label text) tree children) b h k = absurd h
  from_join n (child (index i) tree children) b h k = (h.0, from_join n children b h.1 k)

  pub from_front : (n : ℕ) (a b : Children R) → AreFrom n (join_children a b) → AreFrom n a
  from_front n none b h = tt
  from_front n (child (label text) tree children) b h = absurd h
  from_front n (child (index i) tree children) b h = (h.0, from_front n children b h.1)

  pub from_less : (m n : ℕ) (a : Children R) → m ≤ n → AreFrom n a → AreFrom m a
  from_less m n none l h = tt
  from_less m n (child (label text) tree children) l h = absurd h
  from_less m n (child (index i) tree children) l h = (omega (arith, l, h.0), from_less m n children l h.1)

  -- a step before an index is before all elements from it on
  pub below_from : (n : ℕ) (step : Step) (b : Children R) → step_cmp step (index n) ≡ Less → AreFrom n b → IsStepBelowAll step b
  below_from n step none l h = tt
  below_from n step (child (label text) tree children) l h = absurd h
  below_from n step (child (index i) tree children) l h = (low step i l h.0, below_from n step children l h.1)
    where
      low : (step : Step) (i : ℕ) → step_cmp step (index n) ≡ Less → n ≤ i → step_cmp step (index i) ≡ Less
      low (label text) i l h = refl
      low (index j) i l h = less_number j i (omega (arith, number_less j n l, h))

  pub before_from : (n : ℕ) (a b : Children R) → AreWithinDepth n a → AreFrom n b → AllBefore a b
  before_from n none b h k = tt
  before_from n (child (label text) tree children) b h k = (below_from n (label text) b refl k, before_from n children b h k)
  before_from n (child (index i) tree children) b h k = (below_from n (index i) b (less_number i n h.0) k, before_from n children b h.1 k)

  -- what stands before all elements from an index on stands below it
  pub within_before : (n : ℕ) (tree : Tree R) (a b : Children R) → AllBefore a (child (index n) tree b) → AreWithinDepth n a
  within_before n tree none b h = tt
  within_before n tree (child (label text) here children) b h = within_before n tree children b h.1
  within_before n tree (child (index i) here children) b h = (let l = h.0 in number_less i n l.0, within_before n tree children b h.1)

  -- where the first list has no branch, that of the second is found
  pub find_later : (s : Step) (a b : Children R) → find s a ≡ None → find s (join_children a b) ≡ find s b
  find_later s none b e = refl
  find_later s (child step tree children) b e = by (step_cmp s step) refl (find_later s children b)
    where
      by : (o : Ordering) → step_cmp s step ≡ o → (find s children ≡ None → find s (join_children children b) ≡ find s b) → find s (child step tree (join_children children b)) ≡ find s b
      by Less f more = find_before s step tree (join_children children b) f ∙ more (sym (find_before s step tree children f) ∙ e)
      by Greater f more = find_past s step tree (join_children children b) f ∙ more (sym (find_past s step tree children f) ∙ e)
      by Equal f more = let here : find s (child step tree children) ≡ Some tree = ap (λ o. if_equal o tree (find s children)) f in cc

  -- and where it has one, that
  pub find_earlier : (s : Step) (a b : Children R) (found : Tree R) → find s a ≡ Some found → find s (join_children a b) ≡ Some found
  find_earlier s none b found e = cc
  find_earlier s (child step tree children) b found e = by (step_cmp s step) refl (find_earlier s children b found)
    where
      by : (o : Ordering) → step_cmp s step ≡ o → (find s children ≡ Some found → find s (join_children children b) ≡ Some found) → find s (child step tree (join_children children b)) ≡ Some found
      by Less f more = find_before s step tree (join_children children b) f ∙ more (sym (find_before s step tree children f) ∙ e)
      by Greater f more = find_past s step tree (join_children children b) f ∙ more (sym (find_past s step tree children f) ∙ e)
      by Equal f more =
          ap (λ o. if_equal o tree (find s (join_children children b))) f ∙ sym (ap (λ o. if_equal o tree (find s children)) f) ∙ e

  pub find_either : (s : Step) (a b c d : Children R) → find s a ≡ find s c → find s b ≡ find s d → find s (join_children a b) ≡ find s (join_children c d)
  find_either s a b c d e f = by (find s a) refl
    where
      by : (found : Option (Tree R)) → find s a ≡ found → find s (join_children a b) ≡ find s (join_children c d)
      by None g = find_later s a b g ∙ f ∙ sym (find_later s c d (sym e ∙ g))
      by (Some t) g = find_earlier s a b t g ∙ sym (find_earlier s c d t (sym e ∙ g))

  -- the same of two steps
  pub find_both : (s t : Step) (a b : Children R) → find s a ≡ find t a → find s b ≡ find t b → find s (join_children a b) ≡ find t (join_children a b)
  find_both s t a b e f = by (find t a) refl
    where
      by : (found : Option (Tree R)) → find t a ≡ found → find s (join_children a b) ≡ find t (join_children a b)
      by None g = find_later s a b (e ∙ g) ∙ f ∙ sym (find_later t a b g)
      by (Some tree) g = find_earlier s a b tree (e ∙ g) ∙ sym (find_earlier t a b tree g)

  -- among elements no label is found
  pub no_label : (n : ℕ) (text : List ℕ) (b : Children R) → AreFrom n b → find (label text) b ≡ None
  no_label n text none h = refl
  no_label n text (child (label l) tree children) h = absurd h
  no_label n text (child (index i) tree children) h = find_before (label text) (index i) tree children refl ∙ no_label n text children h.1

  -- where no element is among the branches, none is found
  pub no_element : (n i : ℕ) (a : Children R) → n ≤ i → AreWithinDepth n a → find (index i) a ≡ None
  no_element n i a l h = by (find (index i) a) refl
    where
      by : (found : Option (Tree R)) → find (index i) a ≡ found → find (index i) a ≡ None
      by None e = e
      by (Some tree) e = let low = own_below n i tree a h e in absurd (omega (arith, l, low))

  -- ---- elements that are alike
  pub alike_form : (P : R → Type 0) (i m : ℕ) (tree : Tree R) → IsTreeTaken tree → IsTree P tree → AreBranches P (alike_elements i m tree none) × AreFrom i (alike_elements i m tree none)
  alike_form P i zero tree t h = ((tt, t, h, tt), (omega arith, tt))
  alike_form P i (suc m) tree t h =
      let more = alike_form P (suc i) m tree t h in
      ((below_from (suc i) (index i) (alike_elements (suc i) m tree none) (less_number i (suc i) (omega arith)) more.1, t, h, more.0), (omega arith, from_less i (suc i) (alike_elements (suc i) m tree none) (omega arith) more.1))

  pub alike_within : (n i m : ℕ) (tree : Tree R) → i + m < n → AreWithinDepth n (alike_elements i m tree none)
  alike_within n i zero tree l = (omega (arith, l), tt)
  alike_within n i (suc m) tree l = (omega (arith, l), alike_within n (suc i) m tree (omega (arith, l)))

  pub alike_find : (i m j : ℕ) (tree : Tree R) (others : Children R) → i ≤ j → j ≤ i + m → find (index j) (alike_elements i m tree others) ≡ Some tree
  alike_find i zero j tree others l h =
      let same : j ≡ i = omega (arith, l, h) in ap (λ k. find (index k) (child (index i) tree others)) same ∙ find_first (index i) tree others
  alike_find i (suc m) j tree others l h = by (nat_cmp j i) refl (λ later. alike_find (suc i) m j tree others later (omega (arith, h)))
    where
      by : (o : Ordering) → nat_cmp j i ≡ o → (suc i ≤ j → find (index j) (alike_elements (suc i) m tree others) ≡ Some tree) → find (index j) (child (index i) tree (alike_elements (suc i) m tree others)) ≡ Some tree
      by Less e more = let low = number_less j i e in absurd (omega (arith, low, l))
      by Equal e more = ap (λ o. if_equal o tree (find (index j) (alike_elements (suc i) m tree others))) e
      by Greater e more = find_past (index j) (index i) tree (alike_elements (suc i) m tree others) e ∙ more (number_greater j i e)

  pub alike_past : (i m j : ℕ) (tree : Tree R) (others : Children R) → i + m < j → find (index j) (alike_elements i m tree others) ≡ find (index j) others
  alike_past i zero j tree others l = find_past (index j) (index i) tree others (greater_number j i (omega (arith, l)))
  alike_past i (suc m) j tree others l =
      find_past (index j) (index i) tree (alike_elements (suc i) m tree others) (greater_number j i (omega (arith, l))) ∙ alike_past (suc i) m j tree others (omega (arith, l))

  -- the steps behind elements that are alike
  pub alike_rise : (i m : ℕ) (tree : Tree R) (others : Children R) → StepsRise (alike_elements i m tree others) → IsStepBelowAll (index (i + m)) others × StepsRise others
  alike_rise i zero tree others h = let same : i + zero ≡ i = omega arith in (subst (λ n. IsStepBelowAll (index n) others) (sym same) h.0, h.1)
  alike_rise i (suc m) tree others h =
      let more = alike_rise (suc i) m tree others h.1 in
      let same : suc i + m ≡ i + suc m = omega arith in
      (subst (λ n. IsStepBelowAll (index n) others) same more.0, more.1)

  pub below_alike : (s : Step) (i m : ℕ) (tree : Tree R) (others : Children R) → IsStepBelowAll s (alike_elements i m tree others) → (step_cmp s (index i) ≡ Less) × IsStepBelowAll s others
  below_alike s i zero tree others h = h
  below_alike s i (suc m) tree others h = (h.0, (below_alike s (suc i) m tree others h.1).1)
