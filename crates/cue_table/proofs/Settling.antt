-- A rest that begins earlier, where the elements before it are as it is.
use Rattle.std.proofs.Common.{◌≡◌, ◌+◌, ◌<◌, ◌≤◌, ◌^◌, ℕ, zero, suc, if◌then◌else◌, List, [], ◌∷◌, ◌++◌, length, Option, Some, None, refl, sym, ap, subst, ◌∙◌, inl, inr, arith}
use Rattle.std.specs.Option.{MatchOption, option_to_list}
use Rattle.std.proofs.lemmas.List.{length-append}
use Rattle.std.proofs.lemmas.Bool.{cases_lt, lt-ltb, le-ltb}
use Rattle.cue_lattice.specs.Path.{index}
use Rattle.cue_table.specs.declared.node.Onward.{Onward}
use Rattle.cue_table.specs.declared.node.ElementRun.{ElementRun}
use Rattle.cue_table.specs.Tree.{Tree, Children, none, onward, find, find_with}
use Rattle.cue_table.specs.Form.{IsTreeTaken, IsTree, AreBranches, AreWithinDepth, DiffersFromRest, IsRestOf}
use Rattle.cue_table.specs.Spans.{alike_elements}
use Rattle.cue_table.specs.Inner.Join.{join_children}
use Rattle.cue_table.specs.Inner.Rests.{AreElements, IsLastRun, IsSettled, RepeatsRest, found_to}
use Rattle.cue_table.specs.Inner.Runs.{AreFrom}
use Rattle.cue_table.specs.Inner.View.{last_of, more_of, run_branches}
use Rattle.cue_table.proofs.Branches.{find_before}
use Rattle.cue_table.proofs.Joined.{alike_find, alike_past, find_either, find_later, from_front, join_none, join_parts, less_number, no_element, within_before, within_parts}
use Rattle.cue_table.proofs.RunPlaces.{runs_join}

module _ {R : Type 0} where
  -- before an index its own element is found, and from it on the rest
  pub found_low : (n i : ℕ) (rest : Option (Tree R)) (children : Children R) → i < n → found_to n rest (index i) children ≡ find (index i) children
  found_low n i rest children h = ap (λ b. if b then find (index i) children else rest) (lt-ltb i n h)

  pub found_high : (n i : ℕ) (rest : Option (Tree R)) (children : Children R) → n ≤ i → found_to n rest (index i) children ≡ rest
  found_high n i rest children h = ap (λ b. if b then find (index i) children else rest) (le-ltb i n h)

  -- an element that does not repeat the rest differs from it
  differs : (n : ℕ) (tree : Tree R) (children : Children R) → (RepeatsRest n tree children → ⊥) → DiffersFromRest n tree children
  differs zero tree children h = tt
  differs (suc i) tree children h = h

  -- what stands before elements that are alike stands below the first of them
  before_alike : (i m : ℕ) (tree : Tree R) (P : R → Type 0) (a : Children R) → AreBranches P (join_children a (alike_elements i m tree none)) → AreWithinDepth i a
  before_alike i zero tree P a h = within_before i tree a none (join_parts P a (alike_elements i zero tree none) h).2
  before_alike i (suc m) tree P a h = within_before i tree a (alike_elements (suc i) m tree none) (join_parts P a (alike_elements i (suc m) tree none) h).2

  -- elements before an index are those of which the last stands below it
  last_within : (i m n : ℕ) (tree : Tree R) → AreWithinDepth n (alike_elements i m tree none) → i + m < n
  last_within i zero n tree h = omega (arith, h.0)
  last_within i (suc m) n tree h = let more = last_within (suc i) m n tree h.1 in omega (arith, more)

  pub alike_none : (i m j : ℕ) (tree : Tree R) → j < i → find (index j) (alike_elements i m tree none) ≡ None
  alike_none i zero j tree l = find_before (index j) (index i) tree none (less_number j i l)
  alike_none i (suc m) j tree l = find_before (index j) (index i) tree (alike_elements (suc i) m tree none) (less_number j i l) ∙ alike_none (suc i) m j tree (omega (arith, l))

snoc_same : {X : Type 0} (xs ys : List X) (x y : X) → xs ++ x ∷ [] ≡ ys ++ y ∷ [] → (xs ≡ ys) × (x ≡ y)
snoc_same [] [] x y e = (refl, cc)
snoc_same [] (z ∷ []) x y e = cc
snoc_same [] (z ∷ w ∷ ys) x y e = cc
snoc_same (z ∷ []) [] x y e = cc
snoc_same (z ∷ w ∷ xs) [] x y e = cc
snoc_same (z ∷ xs) (w ∷ ys) x y e =
    let first : z ≡ w = cc in
    let others : xs ++ x ∷ [] ≡ ys ++ y ∷ [] = cc in
    let rest = snoc_same xs ys x y others in
    ((λ i. first i ∷ rest.0 i), rest.1)

module _ {R Q : Type 0} where
  pub one_more : (rs : List (ElementRun R Q)) (r : ElementRun R Q) → run_branches (rs ++ r ∷ []) ≡ join_children (run_branches rs) (alike_elements r.first (more_of r.first r.more) r.node none)
  one_more rs r = runs_join rs (r ∷ [])

  -- the last element of a last run
  pub last_repeats : (runs : List (ElementRun R Q)) (others : List (ElementRun R Q)) (r : ElementRun R Q) (from : ℕ) (rest : Tree R) (P : R → Type 0) → runs ≡ others ++ r ∷ [] → AreElements P from (run_branches runs)
      → RepeatsRest from rest (run_branches runs) → (last_of r.first r.more + 1 ≡ from) × (r.node ≡ rest)
  last_repeats runs others r zero rest P e h k = absurd k
  last_repeats runs others r (suc i) rest P e h k =
      let m = more_of r.first r.more in
      let form : AreBranches P (join_children (run_branches others) (alike_elements r.first m r.node none)) = subst (AreBranches P) (ap run_branches e ∙ one_more others r) h.form in
      let within : AreWithinDepth (suc i) (join_children (run_branches others) (alike_elements r.first m r.node none)) = subst (AreWithinDepth (suc i)) (ap run_branches e ∙ one_more others r) h.within in
      let found : find (index i) (join_children (run_branches others) (alike_elements r.first m r.node none)) ≡ Some rest = subst (λ cs. find (index i) cs ≡ Some rest) (ap run_branches e ∙ one_more others r) k in
      let low = before_alike r.first m r.node P (run_branches others) form in
      let bound = last_within r.first m (suc i) r.node (within_parts (suc i) (run_branches others) (alike_elements r.first m r.node none) within).1 in
      let here = find_later (index i) (run_branches others) (alike_elements r.first m r.node none) (no_element r.first i (run_branches others) (omega (arith, bound)) low) in
      elim (cases_lt (r.first + m) i) [
        | inl past ↦ let gone : Some rest ≡ None = sym found ∙ here ∙ alike_past r.first m i r.node none past in absurd (cc)
        | inr within ↦
            let same : Some r.node ≡ Some rest = sym (here ∙ alike_find r.first m i r.node none (omega (arith, bound)) within) ∙ found in
            (omega (arith, bound, within), cc)
      ]

  pub no_repeats : (runs : List (ElementRun R Q)) (from : ℕ) (rest : Tree R) → runs ≡ [] → RepeatsRest from rest (run_branches runs) → ⊥
  no_repeats runs zero rest e k = k
  no_repeats runs (suc i) rest e k = let gone : find (index i) none ≡ Some rest = subst (λ rs. find (index i) (run_branches rs) ≡ Some rest) e k in cc

  -- What is left of the elements of a list whose rest begins at an index.
  pub record Settles (P : R → Type 0) (fixed : ℕ) (tree : Tree R) (old : Children R) (runs : List (ElementRun R Q)) (at : ℕ) : Type 0 where
    pub elements : AreElements P at (run_branches runs)
    pub few : at ≤ 2 ^ 32
    pub same : (i : ℕ) → found_to at (Some tree) (index i) (run_branches runs) ≡ found_to fixed (Some tree) (index i) old

  pub settles_start : (P : R → Type 0) (fixed : ℕ) (tree : Tree R) (runs : List (ElementRun R Q)) → fixed ≤ 2 ^ 32 → AreElements P fixed (run_branches runs) → Settles P fixed tree (run_branches runs) runs fixed
  settles_start P fixed tree runs few h = record { elements = h; few = few; same = λ i. refl }

  -- the last run goes, which is as the rest
  settles_less : (P : R → Type 0) (fixed : ℕ) (tree : Tree R) (old : Children R) (others : List (ElementRun R Q)) (r : ElementRun R Q) (at : ℕ) → Settles P fixed tree old (others ++ r ∷ []) at
      → last_of r.first r.more + 1 ≡ at → r.node ≡ tree → Settles P fixed tree old others r.first
  settles_less P fixed tree old others r at s ends same =
      let m = more_of r.first r.more in
      let a = run_branches others in
      let b = alike_elements r.first m r.node none in
      let form : AreBranches P (join_children a b) = subst (AreBranches P) (one_more others r) s.elements.form in
      let indexes : AreFrom 0 (join_children a b) = subst (AreFrom 0) (one_more others r) s.elements.indexes in
      let low = before_alike r.first m r.node P a form in
      let there : (i : ℕ) → find (index i) (run_branches (others ++ r ∷ [])) ≡ find (index i) (join_children a b) = λ i. ap (find (index i)) (one_more others r) in
      record {
        elements = record { form = (join_parts P a b form).0; within = low; indexes = from_front 0 a b indexes };
        few = omega (arith, ends, s.few);
        same = λ i. elim (cases_lt i r.first) [
          | inl under ↦
              found_low r.first i (Some tree) a under
              ∙ sym (find_either (index i) a b a none refl (alike_none r.first m i r.node under) ∙ ap (find (index i)) (join_none a))
              ∙ sym (there i) ∙ sym (found_low at i (Some tree) (run_branches (others ++ r ∷ [])) (omega (arith, ends, under))) ∙ s.same i
          | inr above ↦ found_high r.first i (Some tree) a above
              ∙ elim (cases_lt (r.first + m) i) [
                | inl past ↦ sym (found_high at i (Some tree) (run_branches (others ++ r ∷ [])) (omega (arith, ends, past)))
                | inr within ↦
                    ap Some (sym same) ∙ sym (find_later (index i) a b (no_element r.first i a above low) ∙ alike_find r.first m i r.node none above within)
                    ∙ sym (there i) ∙ sym (found_low at i (Some tree) (run_branches (others ++ r ∷ [])) (omega (arith, ends, within)))
              ]
              ∙ s.same i
        ];
      }

  -- the same of what was taken off
  pub settles_popped : (P : R → Type 0) (fixed : ℕ) (tree : Tree R) (old : Children R) (runs left : List (ElementRun R Q)) (last : Option (ElementRun R Q)) (at first n m : ℕ) → Settles P fixed tree old runs at → IsLastRun runs at tree first
      → runs ≡ left ++ option_to_list last → length runs ≡ n → MatchOption last ((n ≡ 0) × (m ≡ 0)) (λ x. m + 1 ≡ n) → Settles P fixed tree old left first
  settles_popped P fixed tree old runs left (Some c) at first n m s is e len cases =
      let two : is.others ++ is.last ∷ [] ≡ left ++ c ∷ [] = sym is.is ∙ e in
      let parts = snoc_same is.others left is.last c two in
      let all = subst (λ rs. Settles P fixed tree old rs at) is.is s in
      subst (λ n. Settles P fixed tree old left n) (sym is.begins) (subst (λ rs. Settles P fixed tree old rs is.last.first) parts.0 (settles_less P fixed tree old is.others is.last at all is.ends is.repeats))
  settles_popped P fixed tree old runs left None at first n m s is e len cases =
      absurd (omega (arith, len, cases.0, ap length is.is, length-append is.others (is.last ∷ [])))

  -- where the last element differs from the rest, the list is in form
  pub settles_end : (P : R → Type 0) (fixed : ℕ) (tree : Tree R) (old : Children R) (runs : List (ElementRun R Q)) (at : ℕ) (made : Onward R Q) → Settles P fixed tree old runs at → (RepeatsRest at tree (run_branches runs) → ⊥) → IsTreeTaken tree → IsTree P tree
      → made.runs.items ≡ runs → made.from ≡ at → made.node ≡ tree → IsSettled P fixed old tree made
  settles_end P fixed tree old runs at made s ends t h e f g = record {
    form = subst (λ rs. AreBranches P (run_branches rs)) (sym e) s.elements.form;
    indexes = subst (λ rs. AreFrom 0 (run_branches rs)) (sym e) s.elements.indexes;
    rest =
        subst (λ rs. IsRestOf P (run_branches rs) (onward made.from made.node)) (sym e)
        (subst (λ n. IsRestOf P (run_branches runs) (onward n made.node)) (sym f)
        (subst (λ v. IsRestOf P (run_branches runs) (onward at v)) (sym g) (s.elements.within, differs at tree (run_branches runs) ends, t, h, s.few)));
    same = λ i. (λ k. find_with (onward (f k) (g k)) (index i) (run_branches (e k))) ∙ s.same i;
  }
