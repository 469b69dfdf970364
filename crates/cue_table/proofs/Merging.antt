-- The union of two lists of branches, from the first branch on.
use Rattle.std.proofs.Common.{◌≡◌, ◌⊎◌, ◌↔◌, ℕ, zero, suc, [], ◌∷◌, Some, None, refl, sym, ap, subst, ◌∙◌, inl, inr, ⊎_elim}
use Rattle.std.specs.declared.cmp.Ordering.{Ordering}
use Rattle.std.specs.declared.cmp.Ordering.TheVariants.{Less, Equal, Greater}
use Rattle.cue_lattice.specs.Path.{Step, step_cmp, Path}
use Rattle.cue_table.specs.Tree.{Tree, node, Children, none, child, no_rest, onward, if_equal, find}
use Rattle.cue_table.specs.Refuses.{TableRefuses}
use Rattle.cue_table.specs.Form.{IsStepBelowAll, IsTreeTaken, IsTree, AreBranches, IsRowKept, IsTable}
use Rattle.cue_table.specs.Meet.{IsMet, IsUnion}
use Rattle.cue_table.specs.Inner.Meet.{BranchesRefuse, IsMerge}
use Rattle.cue_table.specs.Inner.Place.{AreBefore}
use Rattle.cue_table.specs.Inner.Join.{join_children}
use Rattle.cue_table.specs.Inner.Parts.{front_branches, branches_past}
use Rattle.cue_table.proofs.Order.{equal_steps}
use Rattle.cue_table.proofs.Branches.{find_before, find_past, find_below, below_all, found_refuses, not_silent}

module _ {R Q : Type 0} (refuses : R → Q → Type 0) where
  -- where no branch is found, nothing is refused
  silent : (children : Children R) (step : Step) → find step children ≡ None → (path : Path) (question : Q) → BranchesRefuse refuses children step path question → ⊥
  silent children step e path question k = found_refuses refuses (find step children) None e path question k

  -- branches with the same one at a step refuse the same there
  carried : (a b : Children R) (step : Step) → find step a ≡ find step b → (path : Path) (question : Q) → BranchesRefuse refuses a step path question → BranchesRefuse refuses b step path question
  carried a b step e path question k = found_refuses refuses (find step a) (find step b) e path question k

  found_same : (step s : Step) (t : Tree R) (cs : Children R) → step_cmp step s ≡ Equal → find step (child s t cs) ≡ Some t
  found_same step s t cs e = ap (λ o. if_equal o t (find step cs)) e

  -- a branch in front refuses what it refuses, and the others what they refuse
  front_by :
      (s : Step) (t : Tree R) (cs : Children R) (step : Step) → IsStepBelowAll s cs → (o : Ordering) → step_cmp step s ≡ o → (path : Path) (question : Q)
      → BranchesRefuse refuses (child s t cs) step path question ↔ (BranchesRefuse refuses (child s t none) step path question ⊎ BranchesRefuse refuses cs step path question)
  front_by s t cs step h Less e path question = (
    λ k. inr (carried (child s t cs) cs step (find_before step s t cs e) path question k),
    ⊎_elim (λ k. absurd (silent (child s t none) step (find_before step s t none e) path question k))
        (λ k. carried cs (child s t cs) step (sym (find_before step s t cs e)) path question k),
  )
  front_by s t cs step h Equal e path question = (
    λ k. inl (carried (child s t cs) (child s t none) step (found_same step s t cs e ∙ sym (found_same step s t none e)) path question k),
    ⊎_elim (λ k. carried (child s t none) (child s t cs) step (found_same step s t none e ∙ sym (found_same step s t cs e)) path question k)
        (λ k. absurd (silent cs step (ap (λ x. find x cs) (equal_steps step s e) ∙ find_below s cs h) path question k)),
  )
  front_by s t cs step h Greater e path question = (
    λ k. inr (carried (child s t cs) cs step (find_past step s t cs e) path question k),
    ⊎_elim (λ k. absurd (silent (child s t none) step (find_past step s t none e) path question k))
        (λ k. carried cs (child s t cs) step (sym (find_past step s t cs e)) path question k),
  )

  in_front :
      (s : Step) (t : Tree R) (cs : Children R) → IsStepBelowAll s cs → (step : Step) (path : Path) (question : Q)
      → BranchesRefuse refuses (child s t cs) step path question ↔ (BranchesRefuse refuses (child s t none) step path question ⊎ BranchesRefuse refuses cs step path question)
  in_front s t cs h step path question = front_by s t cs step h (step_cmp step s) refl path question

  -- one branch alone at its step
  alone_at : (s : Step) (t : Tree R) (step : Step) → step_cmp step s ≡ Equal → (path : Path) (question : Q) → BranchesRefuse refuses (child s t none) step path question ↔ TableRefuses refuses t path question
  alone_at s t step e path question = (
    λ k. found_refuses refuses (find step (child s t none)) (Some t) (found_same step s t none e) path question k,
    λ k. found_refuses refuses (Some t) (find step (child s t none)) (sym (found_same step s t none e)) path question k,
  )

  -- and at another one
  alone_off : (s : Step) (t : Tree R) (step : Step) (o : Ordering) → step_cmp step s ≡ o → (o ≡ Equal → ⊥) → (path : Path) (question : Q) → BranchesRefuse refuses (child s t none) step path question → ⊥
  alone_off s t step Less e n path question k = silent (child s t none) step (find_before step s t none e) path question k
  alone_off s t step Equal e n path question k = n refl
  alone_off s t step Greater e n path question k = silent (child s t none) step (find_past step s t none e) path question k

  -- one branch that is met with another one at its step
  both_off :
      (s : Step) (a b c : Tree R) (step : Step) (o : Ordering) → step_cmp step s ≡ o → (o ≡ Equal → ⊥) → (path : Path)
      → IsUnion (BranchesRefuse refuses (child s a none) step path) (BranchesRefuse refuses (child s b none) step path) (BranchesRefuse refuses (child s c none) step path)
  both_off s a b c step o e n path question = (
    λ k. absurd (alone_off s c step o e n path question k),
    ⊎_elim (λ k. absurd (alone_off s a step o e n path question k)) (λ k. absurd (alone_off s b step o e n path question k)),
  )

  both_alone :
      (s : Step) (a b c : Tree R) → IsMet refuses a b c → (step : Step) (o : Ordering) → step_cmp step s ≡ o → (path : Path)
      → IsUnion (BranchesRefuse refuses (child s a none) step path) (BranchesRefuse refuses (child s b none) step path) (BranchesRefuse refuses (child s c none) step path)
  both_alone s a b c met step Less e path question = both_off s a b c step Less e (λ f. cc) path question
  both_alone s a b c met step Greater e path question = both_off s a b c step Greater e (λ f. cc) path question
  both_alone s a b c met step Equal e path question =
      let all = met path question in (
        λ k. ⊎_elim (λ x. inl ((alone_at s a step e path question).1 x)) (λ x. inr ((alone_at s b step e path question).1 x)) (all.0 ((alone_at s c step e path question).0 k)),
        λ k. (alone_at s c step e path question).1 (all.1 (⊎_elim (λ x. inl ((alone_at s a step e path question).0 x)) (λ x. inr ((alone_at s b step e path question).0 x)) k)),
      )

  -- what one branch refuses, another one at its step does that refuses no less
  there :
      (s : Step) (t u : Tree R) (l : Children R) → find s l ≡ Some t → IsMet refuses t u t → (step : Step) (o : Ordering) → step_cmp step s ≡ o → (path : Path) (question : Q)
      → BranchesRefuse refuses (child s u none) step path question → BranchesRefuse refuses l step path question
  there s t u l found met step Less e path question k = absurd (alone_off s u step Less e (λ f. cc) path question k)
  there s t u l found met step Greater e path question k = absurd (alone_off s u step Greater e (λ f. cc) path question k)
  there s t u l found met step Equal e path question k =
      found_refuses refuses (Some t) (find step l) (sym (ap (λ x. find x l) (equal_steps step s e) ∙ found)) path question
      ((met path question).1 (inr ((alone_at s u step e path question).0 k)))

  module _ (P : R → Type 0) where
    -- what only one side has
    pub merge_stay : (left : Children R) → AreBranches P left → IsMerge refuses P left none left
    merge_stay left h = record {
      form = h;
      refused = λ step path question. (λ k. inl k, ⊎_elim (λ k. k) (λ k. absurd k));
      above = λ step low other. low;
    }

    pub merge_take : (right : Children R) → AreBranches P right → IsMerge refuses P none right right
    merge_take right h = record {
      form = h;
      refused = λ step path question. (λ k. inr k, ⊎_elim (λ k. absurd k) (λ k. k));
      above = λ step other low. low;
    }

    -- the first of the left list stays
    pub merge_left :
        (s : Step) (t : Tree R) (l r m : Children R) → AreBranches P (child s t l) → IsStepBelowAll s r → IsMerge refuses P l r m
        → IsMerge refuses P (child s t l) r (child s t m)
    merge_left s t l r m h b rest =
        let low : IsStepBelowAll s m = rest.above s h.0 b in
        record {
          form = (low, h.1, h.2, rest.form);
          refused = λ step path question.
              let whole = in_front s t m low step path question in
              let first = in_front s t l h.0 step path question in
              let others = rest.refused step path question in (
                λ k. ⊎_elim (λ x. inl (first.1 (inl x))) (λ x. ⊎_elim (λ y. inl (first.1 (inr y))) (λ y. inr y) (others.0 x)) (whole.0 k),
                ⊎_elim (λ k. ⊎_elim (λ x. whole.1 (inl x)) (λ x. whole.1 (inr (others.1 (inl x)))) (first.0 k)) (λ k. whole.1 (inr (others.1 (inr k)))),
              );
          above = λ step under over. (under.0, rest.above step under.1 over);
        }

    -- the first of the right list stands there
    pub merge_right :
        (s : Step) (t : Tree R) (l r m : Children R) → AreBranches P (child s t r) → IsStepBelowAll s l → IsMerge refuses P l r m
        → IsMerge refuses P l (child s t r) (child s t m)
    merge_right s t l r m h b rest =
        let low : IsStepBelowAll s m = rest.above s b h.0 in
        record {
          form = (low, h.1, h.2, rest.form);
          refused = λ step path question.
              let whole = in_front s t m low step path question in
              let first = in_front s t r h.0 step path question in
              let others = rest.refused step path question in (
                λ k. ⊎_elim (λ x. inr (first.1 (inl x))) (λ x. ⊎_elim (λ y. inl y) (λ y. inr (first.1 (inr y))) (others.0 x)) (whole.0 k),
                ⊎_elim (λ k. whole.1 (inr (others.1 (inl k)))) (λ k. ⊎_elim (λ x. whole.1 (inl x)) (λ x. whole.1 (inr (others.1 (inr x)))) (first.0 k)),
              );
          above = λ step under over. (over.0, rest.above step under over.1);
        }

    -- the first of both lists are met
    pub merge_both :
        (s : Step) (t u v : Tree R) (l r m : Children R) → AreBranches P (child s t l) → AreBranches P (child s u r) → IsTreeTaken v → IsTree P v → IsMet refuses t u v
        → IsMerge refuses P l r m → IsMerge refuses P (child s t l) (child s u r) (child s v m)
    merge_both s t u v l r m h k taken form met rest =
        let low : IsStepBelowAll s m = rest.above s h.0 k.0 in
        record {
          form = (low, taken, form, rest.form);
          refused = λ step path question.
              let whole = in_front s v m low step path question in
              let first = in_front s t l h.0 step path question in
              let second = in_front s u r k.0 step path question in
              let one = both_alone s t u v met step (step_cmp step s) refl path question in
              let others = rest.refused step path question in (
                λ x. ⊎_elim (λ y. ⊎_elim (λ z. inl (first.1 (inl z))) (λ z. inr (second.1 (inl z))) (one.0 y)) (λ y. ⊎_elim (λ z. inl (first.1 (inr z))) (λ z. inr (second.1 (inr z))) (others.0 y)) (whole.0 x),
                ⊎_elim (λ x. ⊎_elim (λ y. whole.1 (inl (one.1 (inl y)))) (λ y. whole.1 (inr (others.1 (inl y)))) (first.0 x))
                    (λ x. ⊎_elim (λ y. whole.1 (inl (one.1 (inr y)))) (λ y. whole.1 (inr (others.1 (inr y)))) (second.0 x)),
              );
          above = λ step under over. (under.0, rest.above step under.1 over.1);
        }

    -- the first of the right list adds nothing to the branch at its step
    pub merge_same :
        (s : Step) (t u : Tree R) (l r m : Children R) → AreBranches P (child s u r) → find s l ≡ Some t → IsMet refuses t u t
        → IsMerge refuses P l r m → IsMerge refuses P l (child s u r) m
    merge_same s t u l r m k e met rest = record {
      form = rest.form;
      refused = λ step path question.
          let second = in_front s u r k.0 step path question in
          let others = rest.refused step path question in (
            λ x. ⊎_elim (λ y. inl y) (λ y. inr (second.1 (inr y))) (others.0 x),
            ⊎_elim (λ x. others.1 (inl x)) (λ x. ⊎_elim (λ y. others.1 (inl (there s t u l e met step (step_cmp step s) refl path question y))) (λ y. others.1 (inr y)) (second.0 x)),
          );
      above = λ step low over. rest.above step low over.1;
    }

    past_form : (n : ℕ) (l : Children R) → AreBranches P l → AreBranches P (branches_past n l)
    past_form zero l h = h
    past_form (suc n) none h = tt
    past_form (suc n) (child s t l) h = past_form n l h.3

    -- the first branches of the left list stay, which are before all of the right one
    pub merge_front :
        (n : ℕ) (s : Step) (u : Tree R) (l r m : Children R) → AreBranches P l → AreBranches P (child s u r) → AreBefore n s l
        → IsMerge refuses P (branches_past n l) (child s u r) m → IsMerge refuses P l (child s u r) (join_children (front_branches n l) m)
    merge_front zero s u l r m h k b rest = rest
    merge_front (suc n) s u none r m h k b rest = absurd b
    merge_front (suc n) s u (child next t l) r m h k b rest =
        merge_left next t l (child s u r) (join_children (front_branches n l) m) h (b.0, below_all next s r b.0 k.0)
        (merge_front n s u l r m h.3 k b.1 rest)

    -- a new branch stands there
    pub merge_insert :
        (n : ℕ) (s : Step) (u : Tree R) (l r m : Children R) → AreBranches P l → AreBranches P (child s u r) → AreBefore n s l → IsStepBelowAll s (branches_past n l)
        → IsMerge refuses P (branches_past n l) r m → IsMerge refuses P l (child s u r) (join_children (front_branches n l) (child s u m))
    merge_insert n s u l r m h k b after rest =
        merge_front n s u l r (child s u m) h k b (merge_right s u (branches_past n l) r m k after rest)

  module _ (is_value : R → Type 0) where
    abbrev Kept : R → Type 0
    Kept = IsRowKept refuses is_value

    -- what a tree with rows is met with has rows
    pub met_taken : (left right met : Tree R) → IsTreeTaken left → IsTree Kept left → IsMet refuses left right met → IsTreeTaken met
    met_taken left right (node (Some row) children rest) t h met = tt
    met_taken left right (node None (child step tree children) rest) t h met = tt
    met_taken left right (node None none (onward n tree)) t h met = tt
    met_taken left right (node None none no_rest) t h met =
        not_silent refuses is_value left t h (λ path question k. nothing path question ((met path question).1 (inl k)))
      where
        nothing : (path : Path) (question : Q) → TableRefuses refuses (node None none no_rest) path question → ⊥
        nothing [] question k = k
        nothing (step ∷ path) question k = k

    -- the next branch is met with one at its step
    pub merge_alter :
        (n : ℕ) (s : Step) (t u v : Tree R) (l rest r m : Children R) → AreBranches Kept l → AreBranches Kept (child s u r) → AreBefore n s l → branches_past n l ≡ child s t rest
        → IsTable refuses is_value v → IsMet refuses t u v → IsMerge refuses Kept rest r m → IsMerge refuses Kept l (child s u r) (join_children (front_branches n l) (child s v m))
    merge_alter n s t u v l rest r m h k b e form met more =
        let here : AreBranches Kept (child s t rest) = subst (AreBranches Kept) e (past_form Kept n l h) in
        let both = merge_both Kept s t u v rest r m here k (met_taken t u v here.1 here.2 met) form met more in
        merge_front Kept n s u l r (child s v m) h k b (subst (λ x. IsMerge refuses Kept x (child s u r) (child s v m)) (sym e) both)
