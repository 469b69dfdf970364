-- An element that stands behind all other branches of a place.
use Rattle.std.proofs.Common.{◌≡◌, ◌+◌, ◌<◌, ◌≤◌, ℕ, suc, List, [], ◌∷◌, ◌++◌, Option, Some, None, refl, sym, ap, subst, ◌∙◌, rules, arith}
use Rattle.std.specs.Ordering.{nat_cmp}
use Rattle.std.specs.declared.cmp.Ordering.{Ordering}
use Rattle.std.specs.declared.cmp.Ordering.TheVariants.{Less, Equal, Greater}
use Rattle.cue_lattice.specs.Path.{Step, label, index, step_cmp}
use Rattle.cue_row.specs.Steps.{step_of}
use Rattle.cue_table.specs.Inner.Child.{Child}
use Rattle.cue_table.specs.Tree.{Tree, Children, none, child, if_equal, find, behind_last}
use Rattle.cue_table.specs.Form.{IsStepBelowAll, IsTreeTaken, IsTree, AreBranches, AreWithinDepth}
use Rattle.cue_table.specs.Inner.RowList.{last_cmp}
use Rattle.cue_table.specs.Inner.View.{branches}
use Rattle.cue_table.proofs.Branches.{find_first, find_past, own_below}
use Rattle.cue_table.proofs.Finding.{reverse_cmp}
use Rattle.cue_table.proofs.Last.{form_more}

less_numbers : (i n : ℕ) → i < n → nat_cmp i n ≡ Less
less_numbers i n h = search rules

numbers_less : (i n : ℕ) → nat_cmp i n ≡ Less → i < n
numbers_less i n h = search rules

module _ {R : Type 0} where
  -- a step that compares as unequal with a branch is looked for further on
  skip : (o : Ordering) (tree : Tree R) (other : Option (Tree R)) → (o ≡ Equal → ⊥) → if_equal o tree other ≡ other
  skip Less tree other h = refl
  skip Equal tree other h = absurd (h refl)
  skip Greater tree other h = refl

  -- elements stand below each greater index
  pub within_more : (n m : ℕ) (children : Children R) → n ≤ m → AreWithinDepth n children → AreWithinDepth m children
  within_more n m none h k = tt
  within_more n m (child (label text) tree children) h k = within_more n m children h k
  within_more n m (child (index i) tree children) h k = (omega (arith, h, k.0), within_more n m children h k.1)

  -- where they stand below an index, none is found from it on
  pub none_from : (n i : ℕ) (children : Children R) → n ≤ i → AreWithinDepth n children → find (index i) children ≡ None
  none_from n i children h k = by (find (index i) children) refl
    where
      by : (found : Option (Tree R)) → find (index i) children ≡ found → find (index i) children ≡ None
      by None e = e
      by (Some tree) e = let low = own_below n i tree children k e in absurd (omega (arith, h, low))

  -- they stand below the index behind the last
  pub within_behind : (n : ℕ) (children : Children R) → behind_last children ≤ n → AreWithinDepth n children
  within_behind n none h = tt
  within_behind n (child (label text) tree children) h = within_behind n children h
  within_behind n (child (index i) tree children) h = (omega arith, within_behind n children (omega arith))

  -- one branch in front
  within_front : (n m : ℕ) (step : Step) (tree : Tree R) (children others : Children R) → n ≤ m → (AreWithinDepth n children → AreWithinDepth m others) → AreWithinDepth n (child step tree children) → AreWithinDepth m (child step tree others)
  within_front n m (label text) tree children others h f k = f k
  within_front n m (index i) tree children others h f k = (omega (arith, h, k.0), f k.1)

  within_low : (n i : ℕ) (step : Step) (tree : Tree R) (children others : Children R) → step_cmp step (index i) ≡ Less → (AreWithinDepth n children → AreWithinDepth i others) → AreWithinDepth n (child step tree children) → AreWithinDepth i (child step tree others)
  within_low n i (label text) tree children others h f k = f k
  within_low n i (index j) tree children others h f k = (numbers_less j i h, f k.1)

  within_labels : (l : List ℕ) (step : Step) (tree : Tree R) (others : Children R) → step_cmp step (label l) ≡ Less → AreWithinDepth 0 others → AreWithinDepth 0 (child step tree others)
  within_labels l (label text) tree others h k = k
  within_labels l (index j) tree others h k = absurd cc

  low_step : (n : ℕ) (step : Step) (tree : Tree R) (children : Children R) → AreWithinDepth n (child step tree children) → step_cmp step (index n) ≡ Less
  low_step n (label text) tree children k = refl
  low_step n (index i) tree children k = less_numbers i n k.0

  within_later : (n : ℕ) (step : Step) (tree : Tree R) (children : Children R) → AreWithinDepth n (child step tree children) → AreWithinDepth n children
  within_later n (label text) tree children k = k
  within_later n (index i) tree children k = k.1

  alone_within : (n : ℕ) (step : Step) (tree : Tree R) → step ≡ index n → AreWithinDepth (n + 1) (child step tree none)
  alone_within n step tree e = subst (λ s. AreWithinDepth (n + 1) (child s tree none)) (sym e) (omega arith, tt)

  alone_label : (l : List ℕ) (step : Step) (tree : Tree R) → step ≡ label l → AreWithinDepth 0 (child step tree none)
  alone_label l step tree e = subst (λ s. AreWithinDepth 0 (child s tree none)) (sym e) tt

module _ {R : Type 0} where
  -- other steps find what they found before
  pub find_other : (step : Step) (cs : List (Child R)) (c : Child R) → (step_cmp step (step_of c.step) ≡ Equal → ⊥) → find step (branches (cs ++ c ∷ [])) ≡ find step (branches cs)
  find_other step [] c h = skip (step_cmp step (step_of c.step)) c.node None h
  find_other step (x ∷ cs) c h = ap (if_equal (step_cmp step (step_of x.step)) x.node) (find_other step cs c h)

  below_end : (step : Step) (cs : List (Child R)) (c : Child R) → IsStepBelowAll step (branches (cs ++ c ∷ [])) → step_cmp step (step_of c.step) ≡ Less
  below_end step [] c h = h.0
  below_end step (x ∷ cs) c h = below_end step cs c h.1

  below_others : (step : Step) (cs : List (Child R)) (c : Child R) → IsStepBelowAll step (branches (cs ++ c ∷ [])) → IsStepBelowAll step (branches cs)
  below_others step [] c h = tt
  below_others step (x ∷ cs) c h = (h.0, below_others step cs c h.1)

  -- the last branch is found at its step
  pub find_end : (P : R → Type 0) (cs : List (Child R)) (c : Child R) → AreBranches P (branches (cs ++ c ∷ [])) → find (step_of c.step) (branches (cs ++ c ∷ [])) ≡ Some c.node
  find_end P [] c h = find_first (step_of c.step) c.node none
  find_end P (x ∷ cs) c h =
      let past = reverse_cmp (step_of x.step) (step_of c.step) Less (below_end (step_of x.step) cs c h.0) in
      find_past (step_of c.step) (step_of x.step) x.node (branches (cs ++ c ∷ [])) past ∙ find_end P cs c h.3

  -- the branches before the last are in form
  pub form_others : (P : R → Type 0) (cs : List (Child R)) (c : Child R) → AreBranches P (branches (cs ++ c ∷ [])) → AreBranches P (branches cs)
  form_others P [] c h = tt
  form_others P (x ∷ cs) c h = (below_others (step_of x.step) cs c h.0, h.1, h.2, form_others P cs c h.3)

  -- an element behind others, which stand below it
  pub within_end : (n : ℕ) (cs : List (Child R)) (c : Child R) → step_of c.step ≡ index n → AreWithinDepth n (branches cs) → AreWithinDepth (n + 1) (branches (cs ++ c ∷ []))
  within_end n [] c e k = alone_within n (step_of c.step) c.node e
  within_end n (x ∷ cs) c e k = within_front n (n + 1) (step_of x.step) x.node (branches cs) (branches (cs ++ c ∷ [])) (omega arith) (λ rest. within_end n cs c e rest) k

  -- the others stand below the last element
  pub within_others : (P : R → Type 0) (n i : ℕ) (cs : List (Child R)) (c : Child R) → step_of c.step ≡ index i → AreBranches P (branches (cs ++ c ∷ [])) → AreWithinDepth n (branches (cs ++ c ∷ [])) → AreWithinDepth i (branches cs)
  within_others P n i [] c e h k = tt
  within_others P n i (x ∷ cs) c e h k =
      let low : step_cmp (step_of x.step) (index i) ≡ Less = subst (λ s. step_cmp (step_of x.step) s ≡ Less) e (below_end (step_of x.step) cs c h.0) in
      within_low n i (step_of x.step) x.node (branches (cs ++ c ∷ [])) (branches cs) low (λ rest. within_others P n i cs c e h.3 rest) k

  -- where a label stands last, there is no element
  pub within_label : (P : R → Type 0) (l : List ℕ) (cs : List (Child R)) (c : Child R) → step_of c.step ≡ label l → AreBranches P (branches (cs ++ c ∷ [])) → AreWithinDepth 0 (branches (cs ++ c ∷ []))
  within_label P l [] c e h = alone_label l (step_of c.step) c.node e
  within_label P l (x ∷ cs) c e h =
      let low : step_cmp (step_of x.step) (label l) ≡ Less = subst (λ s. step_cmp (step_of x.step) s ≡ Less) e (below_end (step_of x.step) cs c h.0) in
      within_labels l (step_of x.step) x.node (branches (cs ++ c ∷ [])) low (within_label P l cs c e h.3)

  last_low : (n : ℕ) (cs : List (Child R)) → AreWithinDepth n (branches cs) → last_cmp (index n) (branches cs) ≡ Less
  last_low n [] k = refl
  last_low n (x ∷ []) k = low_step n (step_of x.step) x.node none k
  last_low n (x ∷ y ∷ cs) k = last_low n (y ∷ cs) (within_later n (step_of x.step) x.node (branches (y ∷ cs)) k)

  -- one more element is in form
  pub form_end : (P : R → Type 0) (n : ℕ) (cs : List (Child R)) (c : Child R) → step_of c.step ≡ index n → AreWithinDepth n (branches cs) → AreBranches P (branches cs) → IsTreeTaken c.node → IsTree P c.node → AreBranches P (branches (cs ++ c ∷ []))
  form_end P n cs c e k h t f =
      form_more P cs c (subst (λ s. last_cmp s (branches cs) ≡ Less) (sym e) (last_low n cs k)) h t f

  -- the element before an index, where one is found there, stands last
  pub end_is : (P : R → Type 0) (i : ℕ) (cs : List (Child R)) (c : Child R) (tree : Tree R) → AreBranches P (branches (cs ++ c ∷ [])) → AreWithinDepth (suc i) (branches (cs ++ c ∷ [])) → find (index i) (branches (cs ++ c ∷ [])) ≡ Some tree → step_of c.step ≡ index i
  end_is P i cs c tree h k e = by (step_of c.step) refl
    where
      by : (s : Step) → step_of c.step ≡ s → step_of c.step ≡ index i
      by (label l) f = let gone = none_from 0 i (branches (cs ++ c ∷ [])) (omega arith) (within_label P l cs c f h) in absurd cc
      by (index j) f =
          let others = within_others P (suc i) j cs c f h k in
          let all = within_end j cs c f others in
          let found = find_end P cs c h in
          let at : find (index j) (branches (cs ++ c ∷ [])) ≡ Some c.node = subst (λ s. find s (branches (cs ++ c ∷ [])) ≡ Some c.node) f found in
          let low : j < suc i = own_below (suc i) j c.node (branches (cs ++ c ∷ [])) k at in
          let high : i < j + 1 = own_below (j + 1) i tree (branches (cs ++ c ∷ [])) all e in
          let same : j ≡ i = omega (arith, low, high) in
          f ∙ ap index same
