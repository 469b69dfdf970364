-- Elements that no branch is at.
use Rattle.std.proofs.Common.{◌≡◌, ◌+◌, ◌<◌, ◌≤◌, min, ℕ, zero, suc, List, [], ◌∷◌, length, get_or, Option, Some, None, refl, sym, ap, subst, ◌∙◌, rules, arith}
use Rattle.std.specs.Ordering.{nat_cmp}
use Rattle.std.specs.declared.cmp.Ordering.TheVariants.{Less}
use Rattle.cue_lattice.specs.Path.{Step, label, index, step_cmp}
use Rattle.cue_table.specs.Inner.Child.{Child}
use Rattle.std.specs.Prelude.{Box}
use Rattle.std.specs.Global.{Global}
use Rattle.cue_table.specs.declared.node.Onward.{Onward}
use Rattle.cue_table.specs.declared.node.Node.TheInside.{Inside}
use Rattle.cue_table.specs.Tree.{Tree, node, Children, none, child, find, step_into}
use Rattle.cue_table.specs.Inner.Join.{join_children}
use Rattle.cue_table.specs.Form.{IsStepBelowAll}
use Rattle.cue_table.specs.Inner.Form.{StepsRise}
use Rattle.cue_table.specs.Inner.Alike.{AreAlike}
use Rattle.cue_table.specs.Inner.Place.{AreBefore, IsGap}
use Rattle.cue_table.specs.Inner.Parts.{branches_past}
use Rattle.cue_table.specs.Inner.View.{below_in, branches, rest_in, run_branches, tree_of}
use Rattle.cue_table.proofs.Branches.{find_below, find_fixed, find_past, below_all}
use Rattle.cue_table.proofs.Finding.{reverse_cmp}
use Rattle.cue_table.proofs.Joined.{find_both, less_number, rise_parts}

number_less : (i n : ℕ) → nat_cmp i n ≡ Less → i < n
number_less i n h = search rules

-- an element alone is like itself
pub alike_alone : {R : Type 0} (n : ℕ) (found : ℕ → Option (Tree R)) → AreAlike n (n + 1) found
alike_alone n found = record { behind = omega arith; same = λ i low high. ap found (let same : i ≡ n = omega (arith, low, high) in same) }

-- a step before an element is before each later one
before_later : (s : Step) (n j : ℕ) → n ≤ j → step_cmp s (index n) ≡ Less → step_cmp s (index j) ≡ Less
before_later (label text) n j l h = refl
before_later (index i) n j l h = less_number i j (omega (arith, number_less i n h, l))

module _ {R : Type 0} where
  all_before : (k n j : ℕ) (children : Children R) → n ≤ j → AreBefore k (index n) children → AreBefore k (index j) children
  all_before zero n j children l h = tt
  all_before (suc k) n j none l h = h
  all_before (suc k) n j (child step tree children) l h = (before_later step n j l h.0, all_before k n j children l h.1)

  -- between branches nothing is found
  gap_none : (k : ℕ) (s : Step) (children : Children R) → AreBefore k s children → IsStepBelowAll s (branches_past k children) → find s children ≡ None
  gap_none zero s children h k = find_below s children k
  gap_none (suc n) s none h k = refl
  gap_none (suc n) s (child step tree children) h k = find_past s step tree children (reverse_cmp step s Less h.0) ∙ gap_none n s children h.1 k

  past_end : (k : ℕ) (children : Children R) (s : Step) → branches_past k children ≡ none → IsStepBelowAll s (branches_past k children)
  past_end k children s e = subst (IsStepBelowAll s) (sym e) tt

  rise_past : (k : ℕ) (children : Children R) → StepsRise children → StepsRise (branches_past k children)
  rise_past zero children h = h
  rise_past (suc k) none h = tt
  rise_past (suc k) (child step tree children) h = rise_past k children h.1

  below_first : (j n : ℕ) (tree : Tree R) (children : Children R) → j < n → StepsRise (child (index n) tree children) → IsStepBelowAll (index j) (child (index n) tree children)
  below_first j n tree children l h = (less_number j n l, below_all (index j) (index n) children (less_number j n l) h.0)

-- an item of a list is there whatever else would be
pub get_any : {X : Type 0} (xs : List X) (k : ℕ) (d e : X) → k < length xs → get_or xs k d ≡ get_or xs k e
get_any [] k d e l = absurd (omega arith)
get_any (x ∷ xs) zero d e l = refl
get_any (x ∷ xs) (suc k) d e l = get_any xs k d e (omega arith)

module _ {R : Type 0} where
  past_long : (k : ℕ) (cs : List (Child R)) → length cs ≤ k → branches_past k (branches cs) ≡ none
  past_long zero [] l = refl
  past_long zero (c ∷ cs) l = absurd (omega arith)
  past_long (suc k) [] l = refl
  past_long (suc k) (c ∷ cs) l = past_long k cs (omega arith)

  -- behind all branches nothing is found
  pub alike_onward : (cs : List (Child R)) (number at to : ℕ) → IsGap cs (index number) at → length cs ≤ at → number < to → AreAlike number to (λ i. find (index i) (branches cs))
  alike_onward cs number at to gap l h =
      let none_at : (i : ℕ) → number ≤ i → find (index i) (branches cs) ≡ None = λ i low.
      gap_none at (index i) (branches cs) (all_before at number i (branches cs) low gap.before) (past_end at (branches cs) (index i) (past_long at cs l)) in
      record { behind = h; same = λ i low high. none_at i low ∙ sym (none_at number (omega arith)) }

  -- and neither before the next element
  pub alike_before :
      (cs rest : List (Child R)) (number at next : ℕ) (tree : Tree R) → StepsRise (branches cs) → IsGap cs (index number) at → branches_past at (branches cs) ≡ child (index next) tree (branches rest)
      → AreAlike number next (λ i. find (index i) (branches cs))
  alike_before cs rest number at next tree a gap e =
      let after : IsStepBelowAll (index number) (child (index next) tree (branches rest)) = subst (IsStepBelowAll (index number)) e gap.after in
      let low = number_less number next after.0 in
      let rises : StepsRise (child (index next) tree (branches rest)) = subst StepsRise e (rise_past at (branches cs) a) in
      let none_at : (i : ℕ) → number ≤ i → i < next → find (index i) (branches cs) ≡ None = λ i l h.
      gap_none at (index i) (branches cs) (all_before at number i (branches cs) l gap.before) (subst (IsStepBelowAll (index i)) (sym e) (below_first i next tree (branches rest) h rises)) in
      record { behind = low; same = λ i l h. none_at i l h ∙ sym (none_at number (omega arith) low) }

  -- the branches of a place rise, and so do its runs
  pub own_rise : {Q : Type 0} (cs : List (Child R)) (rest : Option (Box (Onward R Q) Global)) → StepsRise (below_in (branches cs) rest) → StepsRise (branches cs)
  own_rise cs None h = h
  own_rise cs (Some b) h = (rise_parts (branches cs) (run_branches b.value.runs.items) h).0

  pub runs_rise : {Q : Type 0} (cs : List (Child R)) (rest : Option (Box (Onward R Q) Global)) (b : Box (Onward R Q) Global) → rest ≡ Some b → StepsRise (below_in (branches cs) rest) → StepsRise (run_branches b.value.runs.items)
  runs_rise cs rest b e h = (rise_parts (branches cs) (run_branches b.value.runs.items) (subst (λ r. StepsRise (below_in (branches cs) r)) e h)).1

  -- before a rest, elements are alike where those among the branches and those among the runs are
  pub alike_both :
      {Q : Type 0} (a : Inside R Q) (tree : Tree R) (b : Box (Onward R Q) Global) (number own runs to : ℕ) → tree_of a ≡ tree → a.rest ≡ Some b → number < b.value.from
      → AreAlike number own (λ i. find (index i) (branches a.children.items)) → AreAlike number runs (λ i. find (index i) (run_branches b.value.runs.items))
      → to ≡ min (min own runs) b.value.from → AreAlike number to (λ i. step_into tree (index i))
  alike_both a tree b number own runs to e f l mine others is =
      let cs = branches a.children.items in
      let rs = run_branches b.value.runs.items in
      let at : (i : ℕ) → i < b.value.from → step_into tree (index i) ≡ find (index i) (join_children cs rs) = λ i h.
      ap (λ t. step_into t (index i)) (sym e) ∙ ap (λ r. step_into (node a.row (below_in cs r) (rest_in r)) (index i)) f ∙ find_fixed b.value.from b.value.node (join_children cs rs) i h in
      record {
        behind = omega (arith, is, mine.behind, others.behind, l);
        same = λ i low high.
            at i (omega (arith, is, high))
            ∙ find_both (index i) (index number) cs rs (mine.same i low (omega (arith, is, high))) (others.same i low (omega (arith, is, high)))
            ∙ sym (at number l);
      }
