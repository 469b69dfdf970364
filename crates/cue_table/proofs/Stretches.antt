-- A list by its stretches of elements that are alike.
use Rattle.std.proofs.Common.{◌≡◌, ◌↔◌, ◌+◌, ◌-◌, ◌^◌, ◌<◌, ◌≤◌, if◌then◌else◌, ℕ, zero, suc, List, [], ◌∷◌, ◌++◌, All, length, reverse, Option, Some, None, refl, sym, ap, subst, ◌∙◌, inl, inr, arith}
use Rattle.std.proofs.lemmas.Bool.{cases_lt, lt-ltb, le-ltb}
use Rattle.std.proofs.lemmas.List.{reverse-append}
use Rattle.cue_lattice.specs.Limits.{step_limit}
use Rattle.cue_lattice.specs.Path.{label, index, Path}
use Rattle.cue_row.specs.Steps.{step_of}
use Rattle.cue_table.specs.Depth.{tree_depth}
use Rattle.cue_table.specs.Form.{IsTreeTaken, IsTree, AreBranches, AreWithinDepth, IsRowKept}
use Rattle.cue_table.specs.Many.{IsOfElements, element_given}
use Rattle.cue_table.specs.Refuses.{RowRefuses, TableRefuses}
use Rattle.cue_table.specs.Spans.{alike_elements}
use Rattle.cue_table.specs.Tree.{Tree, node, Children, none, child, Rest, no_rest, onward, row_of, empty, if_not_empty, find, find_with, step_into}
use Rattle.cue_table.specs.declared.node.Onward.{Onward}
use Rattle.cue_table.specs.declared.node.ElementRun.{ElementRun}
use Rattle.cue_table.specs.Inner.Child.{Child}
use Rattle.cue_table.specs.Inner.Join.{join_children}
use Rattle.cue_table.specs.Inner.Rests.{AreElements, IsListOf, IsRunOf, IsSettled, found_to}
use Rattle.cue_table.specs.Inner.Runs.{AreFrom}
use Rattle.cue_table.specs.Inner.View.{branches, more_of, run_branches}
use Rattle.cue_table.proofs.Branches.{FoundRefuses, find_below, found_refuses}
use Rattle.cue_table.proofs.ByHalves.{free}
use Rattle.cue_table.proofs.Depth.{refusals_depth, refused_depth}
use Rattle.cue_table.proofs.Joined.{alike_find, alike_form, alike_join, alike_past, alike_within, before_from, below_from, from_join, from_less, join_assoc, join_form, join_none, less_number, no_element, no_label, within_join}
use Rattle.cue_table.proofs.RestBegins.{all_but, alike_last, branches_end}
use Rattle.cue_table.proofs.Settling.{found_high, found_low}

-- ---- each element of a run as a branch
module _ {R : Type 0} where
  all_but_more : (i m : ℕ) (tree : Tree R) → all_but i (suc m) tree ≡ join_children (all_but i m tree) (child (index (i + m)) tree none)
  all_but_more i zero tree = let same : i ≡ i + zero = omega arith in ap (λ n. child (index n) tree none) same
  all_but_more i (suc m) tree =
      let same : suc i + m ≡ i + suc m = omega arith in
      ap (child (index i) tree) (all_but_more (suc i) m tree) ∙ ap (λ n. child (index i) tree (join_children (all_but (suc i) m tree) (child (index n) tree none))) same

  pub none_pushed : (cs : List (Child R)) (first number : ℕ) (tree : Tree R) → number ≡ first → branches cs ≡ join_children (branches cs) (all_but first (number - first) tree)
  none_pushed cs first number tree e =
      let no : number - first ≡ zero = omega (arith, e) in
      sym (ap (λ m. join_children (branches cs) (all_but first m tree)) no ∙ join_none (branches cs))

  -- one more
  pub one_pushed :
      (old : Children R) (cs all : List (Child R)) (c : Child R) (first number : ℕ) (tree : Tree R) → first ≤ number → all ≡ cs ++ c ∷ [] → step_of c.step ≡ index number → c.node ≡ tree
      → branches cs ≡ join_children old (all_but first (number - first) tree) → branches all ≡ join_children old (all_but first (number + 1 - first) tree)
  one_pushed old cs all c first number tree low e step here h =
      let m = number - first in
      let more : suc m ≡ number + 1 - first = omega (arith, low) in
      let at : number ≡ first + m = omega (arith, low) in
      ap branches e ∙ branches_end cs c ∙ (λ i. join_children (h i) (child (step i) (here i) none)) ∙ join_assoc old (all_but first m tree) (child (index number) tree none)
      ∙ ap (λ n. join_children old (join_children (all_but first m tree) (child (index n) tree none))) at ∙ ap (join_children old) (sym (all_but_more first m tree)) ∙ ap (λ n. join_children old (all_but first n tree)) more

  -- all of them
  pub all_pushed : (old : Children R) (cs : List (Child R)) (first more number : ℕ) (tree : Tree R) → number ≡ first + more + 1 → branches cs ≡ join_children old (all_but first (number - first) tree) → branches cs ≡ join_children old (alike_elements first more tree none)
  all_pushed old cs first more number tree e h =
      let count : number - first ≡ suc more = omega (arith, e) in
      h ∙ ap (λ m. join_children old (all_but first m tree)) count ∙ ap (join_children old) (all_but_more first more tree ∙ sym (alike_last first more tree))

-- ---- each run as branches
module _ {R Q : Type 0} where
  runs_left : (old : Children R) (r : ElementRun R Q) (rs : List (ElementRun R Q)) → join_children (join_children old (alike_elements r.first (more_of r.first r.more) r.node none)) (run_branches rs) ≡ join_children old (run_branches (r ∷ rs))
  runs_left old r rs =
      let m = more_of r.first r.more in
      join_assoc old (alike_elements r.first m r.node none) (run_branches rs) ∙ ap (join_children old) (alike_join r.first m r.node none (run_branches rs))

  -- the branches of a run are put behind others
  pub run_pushed :
      (all left rest : List (ElementRun R Q)) (r : ElementRun R Q) (cs more : List (Child R)) → left ≡ r ∷ rest → branches more ≡ join_children (branches cs) (alike_elements r.first (more_of r.first r.more) r.node none)
      → join_children (branches cs) (run_branches left) ≡ run_branches all → join_children (branches more) (run_branches rest) ≡ run_branches all
  run_pushed all left rest r cs more e f h = ap (λ b. join_children b (run_branches rest)) f ∙ runs_left (branches cs) r rest ∙ ap (λ rs. join_children (branches cs) (run_branches rs)) (sym e) ∙ h

-- ---- stretches before an index as runs
module _ {R : Type 0} where
  pub element_before : (i start : ℕ) (tree : Tree R) (rest : List (ℕ × Tree R)) → i < start → element_given i ((start, tree) ∷ rest) ≡ element_given i rest
  element_before i start tree rest h = ap (λ b. if b then element_given i rest else tree) (lt-ltb i start h)

  pub element_from : (i start : ℕ) (tree : Tree R) (rest : List (ℕ × Tree R)) → start ≤ i → element_given i ((start, tree) ∷ rest) ≡ tree
  element_from i start tree rest h = ap (λ b. if b then element_given i rest else tree) (le-ltb i start h)

  none_before : (end i : ℕ) (children : Children R) → i < end → AreFrom end children → find (index i) children ≡ None
  none_before end i children low h = find_below (index i) children (below_from end (index i) children (less_number i end low) h)

  taken_is : (tree : Tree R) → IsTreeTaken tree → if_not_empty tree ≡ Some tree
  taken_is (node (Some row) children rest) h = refl
  taken_is (node None none no_rest) h = absurd h
  taken_is (node None none (onward n tree)) h = refl
  taken_is (node None (child step tree children) rest) h = refl

module _ {R Q : Type 0} where
  -- The elements from an index on are these runs, the last one first; those before it are what is left
  -- of the stretches.
  pub record AreElementsFrom (P : R → Type 0) (from : ℕ) (all left : List (ℕ × Tree R)) (runs : List (ElementRun R Q)) (end : ℕ) : Type 0 where
    pub low : end ≤ from
    pub few : from ≤ 2 ^ 32
    pub form : AreBranches P (run_branches (reverse runs))
    pub within : AreWithinDepth from (run_branches (reverse runs))
    pub indexes : AreFrom end (run_branches (reverse runs))
    pub found : (i : ℕ) → end ≤ i → i < from → find (index i) (run_branches (reverse runs)) ≡ if_not_empty (element_given i all)
    pub others : (i : ℕ) → i < end → element_given i all ≡ element_given i left

  pub falls_start : (P : R → Type 0) (from : ℕ) (all : List (ℕ × Tree R)) (runs : List (ElementRun R Q)) → from ≤ 2 ^ 32 → runs ≡ [] → AreElementsFrom P from all all runs from
  falls_start P from all runs few e = record {
    low = omega arith;
    few = few;
    form = subst (λ rs. AreBranches P (run_branches (reverse rs))) (sym e) tt;
    within = subst (λ (rs : List (ElementRun R Q)). AreWithinDepth from (run_branches (reverse rs))) (sym e) tt;
    indexes = subst (λ (rs : List (ElementRun R Q)). AreFrom from (run_branches (reverse rs))) (sym e) tt;
    found = λ i high low. absurd (omega (arith, high, low));
    others = λ i low. refl;
  }

  -- a stretch that begins no earlier than another one has no elements
  pub falls_past : (P : R → Type 0) (from : ℕ) (all left rest : List (ℕ × Tree R)) (runs : List (ElementRun R Q)) (end start : ℕ) (tree : Tree R) → left ≡ (start, tree) ∷ rest → end ≤ start → AreElementsFrom P from all left runs end → AreElementsFrom P from all rest runs end
  falls_past P from all left rest runs end start tree e past f = record {
    low = f.low;
    few = f.few;
    form = f.form;
    within = f.within;
    indexes = f.indexes;
    found = f.found;
    others = λ i low. f.others i low ∙ ap (element_given i) e ∙ element_before i start tree rest (omega (arith, low, past));
  }

  -- a stretch without rows is no run
  pub falls_gap : (P : R → Type 0) (from : ℕ) (all left rest : List (ℕ × Tree R)) (runs : List (ElementRun R Q)) (end start : ℕ) (tree : Tree R) → left ≡ (start, tree) ∷ rest → start < end → if_not_empty tree ≡ None
      → AreElementsFrom P from all left runs end → AreElementsFrom P from all rest runs start
  falls_gap P from all left rest runs end start tree e before gone f =
      let children = run_branches (reverse runs) in
      record {
        low = omega (arith, before, f.low);
        few = f.few;
        form = f.form;
        within = f.within;
        indexes = from_less start end children (omega (arith, before)) f.indexes;
        found = λ i high low. elim (cases_lt i end) [
          | inl under ↦ none_before end i children under f.indexes ∙ sym (ap if_not_empty (f.others i under ∙ ap (element_given i) e ∙ element_from i start tree rest high) ∙ gone)
          | inr above ↦ f.found i above low
        ];
        others = λ i low. f.others i (omega (arith, low, before)) ∙ ap (element_given i) e ∙ element_before i start tree rest low;
      }

  -- another one is one
  pub falls_run :
      (P : R → Type 0) (from : ℕ) (all left rest : List (ℕ × Tree R)) (runs after : List (ElementRun R Q)) (end start : ℕ) (tree : Tree R) (r : ElementRun R Q) → left ≡ (start, tree) ∷ rest → start < end → IsRunOf P start (end - 1) tree r
      → after ≡ runs ++ r ∷ [] → AreElementsFrom P from all left runs end → AreElementsFrom P from all rest after start
  falls_run P from all left rest runs after end start tree r e before one pushed f =
      let others = run_branches (reverse runs) in
      let m = more_of r.first r.more in
      let last : start + m ≡ end - 1 = omega (arith, one.begins, one.ends, f.few, f.low, before) in
      let a = alike_elements start m tree none in
      let own = alike_form P start m tree one.taken one.form in
      let turned : reverse after ≡ r ∷ reverse runs = ap reverse pushed ∙ reverse-append runs (r ∷ []) in
      let whole : run_branches (reverse after) ≡ alike_elements start m tree others = ap run_branches turned ∙ (λ i. alike_elements (one.begins i) m (one.is i) others) in
      let both : run_branches (reverse after) ≡ join_children a others = whole ∙ sym (alike_join start m tree none others) in
      record {
        low = omega (arith, before, f.low);
        few = f.few;
        form = subst (AreBranches P) (sym both) (join_form P a others own.0 f.form (before_from end a others (alike_within end start m tree (omega (arith, last, before))) f.indexes));
        within = subst (AreWithinDepth from) (sym both) (within_join from a others (alike_within from start m tree (omega (arith, last, before, f.low))) f.within);
        indexes = subst (AreFrom start) (sym both) (from_join start a others own.1 (from_less start end others (omega (arith, before)) f.indexes));
        found = λ i high low. ap (find (index i)) whole
            ∙ elim (cases_lt i end) [
              | inl under ↦ alike_find start m i tree others high (omega (arith, under, last)) ∙ sym (ap if_not_empty (f.others i under ∙ ap (element_given i) e ∙ element_from i start tree rest high) ∙ taken_is tree one.taken)
              | inr above ↦ alike_past start m i tree others (omega (arith, above, last, before)) ∙ f.found i above low
            ];
        others = λ i low. f.others i (omega (arith, low, before)) ∙ ap (element_given i) e ∙ element_before i start tree rest low;
      }

  -- where no stretch is left, these are all
  pub falls_form : (P : R → Type 0) (from : ℕ) (all left : List (ℕ × Tree R)) (runs after : List (ElementRun R Q)) (end : ℕ) → after ≡ reverse runs → AreElementsFrom P from all left runs end → AreElements P from (run_branches after)
  falls_form P from all left runs after end e f =
      subst (λ rs. AreElements P from (run_branches rs)) (sym e) (record { form = f.form; within = f.within; indexes = from_less 0 end (run_branches (reverse runs)) (omega arith) f.indexes })

  pub falls_all : (P : R → Type 0) (from : ℕ) (all left : List (ℕ × Tree R)) (runs after : List (ElementRun R Q)) (end : ℕ) → after ≡ reverse runs → length left ≡ 0 → AreElementsFrom P from all left runs end
      → (i : ℕ) → i < from → find (index i) (run_branches after) ≡ if_not_empty (element_given i all)
  falls_all P from all (one ∷ left) runs after end e ended f i low = absurd (omega (arith, ended))
  falls_all P from all [] runs after end e ended f i low =
      ap (λ rs. find (index i) (run_branches rs)) e
      ∙ elim (cases_lt i end) [
        | inl under ↦ none_before end i (run_branches (reverse runs)) under f.indexes ∙ sym (ap if_not_empty (f.others i under))
        | inr above ↦ f.found i above low
      ]

-- ---- the list of all stretches
module _ {R : Type 0} where
  label_none : (rest : Rest R) (text : List ℕ) (children : Children R) → AreFrom 0 children → find_with rest (label text) children ≡ None
  label_none no_rest text children h = no_label 0 text children h
  label_none (onward n tree) text children h = no_label 0 text children h

  -- a list with a rest
  pub going_on : {Q : Type 0} (P : R → Type 0) (from : ℕ) (elements : Children R) (tree list : Tree R) (made : Onward R Q) → IsTreeTaken tree → IsSettled P from elements tree made
      → list ≡ node None (run_branches made.runs.items) (onward made.from made.node) → IsListOf P from elements (if_not_empty tree) list
  going_on P from elements tree list made there is e =
      let rest = onward made.from made.node in
      subst (IsListOf P from elements (if_not_empty tree)) (sym e) (record {
        form = (tt, is.form, is.rest);
        row = refl;
        labels = λ text. label_none rest text (run_branches made.runs.items) is.indexes;
        same = λ i. is.same i ∙ ap (λ further. found_to from further (index i) elements) (sym (taken_is tree there));
      })

  -- one that ends
  pub ending : (P : R → Type 0) (from : ℕ) (elements : Children R) (further : Option (Tree R)) (list : Tree R) → further ≡ None → AreElements P from elements → list ≡ node None elements no_rest → IsListOf P from elements further list
  ending P from elements further list gone is e =
      subst (λ o. IsListOf P from elements o list) (sym gone) (subst (IsListOf P from elements None) (sym e) (record {
        form = (tt, is.form, tt);
        row = refl;
        labels = λ text. label_none no_rest text elements is.indexes;
        same = λ i. elim (cases_lt i from) [
          | inl low ↦ sym (found_low from i None elements low)
          | inr high ↦ no_element from i elements high is.within ∙ sym (found_high from i None elements high)
        ];
      }))

module _ {R S : Type 0} (refuses : R → S → Type 0) where
  -- a branch refuses what its tree does, where this has a row
  taken_refuses : (tree : Tree R) (path : Path) (question : S) → FoundRefuses refuses (if_not_empty tree) path question ↔ TableRefuses refuses tree path question
  taken_refuses (node (Some row) children rest) path question = (λ h. h, λ h. h)
  taken_refuses (node None none no_rest) path question = (λ h. absurd h, λ h. absurd (free refuses path question h))
  taken_refuses (node None none (onward n tree)) path question = (λ h. h, λ h. h)
  taken_refuses (node None (child step tree children) rest) path question = (λ h. h, λ h. h)

  of_found : (given : List (ℕ × Tree R)) (table : Tree R) → row_of table ≡ None → ((text : List ℕ) → step_into table (label text) ≡ None) → ((i : ℕ) → step_into table (index i) ≡ if_not_empty (element_given i given)) → IsOfElements refuses given table
  of_found given table row labels found = record {
    root = λ question h. subst (λ o. RowRefuses refuses o question) row h;
    labels = λ text path question h. found_refuses refuses (step_into table (label text)) None (labels text) path question h;
    elements = λ i path question.
        let same = taken_refuses (element_given i given) path question in
        (λ h. same.0 (found_refuses refuses (step_into table (index i)) (if_not_empty (element_given i given)) (found i) path question h), λ h. found_refuses refuses (if_not_empty (element_given i given)) (step_into table (index i)) (sym (found i)) path question (same.1 h));
  }

  -- the list of the elements before the last stretch, and of this stretch, is that of all stretches
  list_given : (P : R → Type 0) (from : ℕ) (tree list : Tree R) (given others : List (ℕ × Tree R)) (elements : Children R) → given ≡ (from, tree) ∷ others → ((i : ℕ) → i < from → find (index i) elements ≡ if_not_empty (element_given i others))
      → IsListOf P from elements (if_not_empty tree) list → IsOfElements refuses given list
  list_given P from tree list given others elements e same is =
      subst (λ g. IsOfElements refuses g list) (sym e) (of_found ((from, tree) ∷ others) list is.row is.labels (λ i. is.same i
      ∙ elim (cases_lt i from) [
        | inl low ↦ found_low from i (if_not_empty tree) elements low ∙ same i low ∙ ap if_not_empty (sym (element_before i from tree others low))
        | inr high ↦ found_high from i (if_not_empty tree) elements high ∙ sym (ap if_not_empty (element_from i from tree others high))
      ]))

  -- the same of the tree's place
  pub root_given : (P : R → Type 0) (from : ℕ) (tree root list : Tree R) (given whole others : List (ℕ × Tree R)) (elements : Children R) → whole ≡ given → whole ≡ (from, tree) ∷ others → root ≡ tree
      → ((i : ℕ) → i < from → find (index i) elements ≡ if_not_empty (element_given i others)) → IsListOf P from elements (if_not_empty root) list → IsOfElements refuses given list
  root_given P from tree root list given whole others elements same e is found made =
      list_given P from tree list given others elements (sym same ∙ e) found (subst (λ t. IsListOf P from elements (if_not_empty t) list) is made)

  pub none_given : (given : List (ℕ × Tree R)) (table : Tree R) → length given ≡ 0 → table ≡ empty → IsOfElements refuses given table
  none_given (one ∷ given) table ended e = absurd (omega (arith, ended))
  none_given [] table ended e = subst (IsOfElements refuses []) (sym e) (of_found [] empty refl (λ text. refl) (λ i. refl))

  element_depth : (i : ℕ) (given : List (ℕ × Tree R)) → All (λ one. tree_depth one.1 < step_limit) given → tree_depth (element_given i given) < step_limit
  element_depth i [] low = omega arith
  element_depth i (one ∷ given) low = elim (cases_lt i one.0) [
    | inl before ↦ subst (λ t. tree_depth t < step_limit) (sym (element_before i one.0 one.1 given before)) (element_depth i given (λ k d less. low (suc k) d (omega (arith, less))))
    | inr from ↦ subst (λ t. tree_depth t < step_limit) (sym (element_from i one.0 one.1 given from)) (low 0 one (omega arith))
  ]

  -- the list is no deeper than a table may be
  pub elements_depth : (is_value : R → Type 0) (given : List (ℕ × Tree R)) (table : Tree R) → IsTree (IsRowKept refuses is_value) table → All (λ one. tree_depth one.1 < step_limit) given → IsOfElements refuses given table → tree_depth table ≤ step_limit
  elements_depth is_value given table form low of = refusals_depth refuses is_value table step_limit form (short given low of)
    where
      short : (given : List (ℕ × Tree R)) → All (λ one. tree_depth one.1 < step_limit) given → IsOfElements refuses given table → (path : Path) (question : S) → TableRefuses refuses table path question → length path ≤ step_limit
      short given low of [] question h = omega arith
      short given low of (label text ∷ path) question h = absurd (of.labels text path question h)
      short given low of (index i ∷ path) question h =
          let deep = refused_depth refuses (element_given i given) path question ((of.elements i path question).0 h) in
          let less = element_depth i given low in
          omega (arith, deep, less)
