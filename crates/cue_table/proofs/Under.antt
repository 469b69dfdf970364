-- The rows below one slot of a place, and those of the branch that is kept there.
use Rattle.std.proofs.Common.{◌≡◌, ⊎_elim, ℕ, List, [], ◌∷◌, ◌++◌, map, Option, Some, None, refl, sym, ap, subst, ◌∙◌, arith}
use Rattle.std.specs.Option.{option_to_list}
use Rattle.std.specs.List.{AllByRecursion}
use Rattle.std.proofs.lemmas.Bool.Decides.{nat_tests}
use Rattle.std.proofs.lemmas.List.{append-nil}
use Rattle.std.specs.Ordering.{nat_cmp}
use Rattle.std.specs.declared.cmp.Ordering.{Ordering}
use Rattle.std.specs.declared.cmp.Ordering.TheVariants.{Less, Equal, Greater}
use Rattle.cue_lattice.specs.Path.{Step, step_cmp}
use Rattle.cue_table.specs.Form.{IsTree}
use Rattle.cue_table.specs.Rows.{kept_rest}
use Rattle.cue_table.specs.Slots.{Slot, at, from, slot_cmp, Place, row_behind, rows_of, rows_below, rows_onward}
use Rattle.cue_table.specs.Tree.{Tree, node, Children, none, child, Rest, no_rest, onward, empty, find}
use Rattle.cue_table.specs.Inner.Form.{StepsRise}
use Rattle.cue_table.specs.Inner.Loose.{IsLoose}
use Rattle.cue_table.specs.Inner.Opened.{close_trees, IsOpen, IsBeyond}
use Rattle.cue_table.specs.Inner.RowList.{last_cmp}
use Rattle.cue_table.proofs.Branches.{find_before, find_past, find_below, find_first}
use Rattle.cue_table.proofs.Closing.{rows_hung, slots_above}
use Rattle.cue_table.proofs.Finding.{branches_rise, find_form, reverse_cmp}
use Rattle.cue_table.proofs.Listed.{rest_kept, rest_is}
use Rattle.cue_table.proofs.Loosened.{loosened}
use Rattle.cue_table.proofs.Order.{step_total, equal_steps}
use Rattle.cue_table.proofs.RowLists.{same_lists}
use Rattle.cue_table.proofs.SlotOrder.{same_slot, equal_slots}

module _ {R : Type 0} where
  -- a row is taken where two slots compare as equal
  abbrev picked : Ordering → Place × R → List (Place × R) → List (Place × R)
  picked Less row rows = rows
  picked Equal row rows = row ∷ rows
  picked Greater row rows = rows

  abbrev picked_at : Slot → Place → R → List (Place × R) → List (Place × R)
  picked_at slot [] row rows = rows
  picked_at slot (first ∷ place) row rows = picked (slot_cmp slot first) (place, row) rows

  -- the rows whose places begin with a slot, without it
  abbrev pub under : Slot → List (Place × R) → List (Place × R)
  under slot [] = []
  under slot (row ∷ rows) = picked_at slot row.0 row.1 (under slot rows)

  picked_both : (o : Ordering) (row : Place × R) (xs ys : List (Place × R)) → picked o row (xs ++ ys) ≡ picked o row xs ++ ys
  picked_both Less row xs ys = refl
  picked_both Equal row xs ys = refl
  picked_both Greater row xs ys = refl

  picked_at_both : (slot : Slot) (place : Place) (row : R) (xs ys : List (Place × R)) → picked_at slot place row (xs ++ ys) ≡ picked_at slot place row xs ++ ys
  picked_at_both slot [] row xs ys = refl
  picked_at_both slot (first ∷ place) row xs ys = picked_both (slot_cmp slot first) (place, row) xs ys

  under_both : (slot : Slot) (xs ys : List (Place × R)) → under slot (xs ++ ys) ≡ under slot xs ++ under slot ys
  under_both slot [] ys = refl
  under_both slot (x ∷ xs) ys = ap (picked_at slot x.0 x.1) (under_both slot xs ys) ∙ picked_at_both slot x.0 x.1 (under slot xs) (under slot ys)

  under_same : (slot : Slot) (rows : List (Place × R)) → under slot (map (row_behind slot) rows) ≡ rows
  under_same slot [] = refl
  under_same slot (row ∷ rows) = ap (λ o. picked o row (under slot (map (row_behind slot) rows))) (same_slot slot) ∙ ap (λ xs. row ∷ xs) (under_same slot rows)

  not_picked : (o : Ordering) (row : Place × R) (rows : List (Place × R)) → (o ≡ Equal → ⊥) → picked o row rows ≡ rows
  not_picked Less row rows h = refl
  not_picked Equal row rows h = absurd (h refl)
  not_picked Greater row rows h = refl

  under_other : (slot other : Slot) (rows : List (Place × R)) → (slot_cmp slot other ≡ Equal → ⊥) → under slot (map (row_behind other) rows) ≡ []
  under_other slot other [] h = refl
  under_other slot other (row ∷ rows) h = not_picked (slot_cmp slot other) row (under slot (map (row_behind other) rows)) h ∙ under_other slot other rows h

  under_own : (slot : Slot) (here : Option R) → under slot (map (λ r. ([], r)) (option_to_list here)) ≡ []
  under_own slot None = refl
  under_own slot (Some row) = refl

  under_node : (slot : Slot) (here : Option R) (children : Children R) (rest : Rest R) → under slot (rows_of (node here children rest)) ≡ under slot (rows_below children) ++ under slot (rows_onward rest)
  under_node slot here children rest =
      under_both slot (map (λ r. ([], r)) (option_to_list here)) (rows_below children ++ rows_onward rest)
      ∙ ap (λ rows. rows ++ under slot (rows_below children ++ rows_onward rest)) (under_own slot here)
      ∙ under_both slot (rows_below children) (rows_onward rest)

  -- what is found, or the tree without rows
  abbrev or_empty : Option (Tree R) → Tree R
  or_empty None = empty
  or_empty (Some tree) = tree

  under_step : (step : Step) (children : Children R) → StepsRise children → under (at step) (rows_below children) ≡ rows_of (or_empty (find step children))
  under_step step none rise = refl
  under_step step (child s t children) rise = by (step_cmp step s) refl (under_step step children rise.1)
    where
      by : (o : Ordering) → step_cmp step s ≡ o → under (at step) (rows_below children) ≡ rows_of (or_empty (find step children)) → under (at step) (rows_below (child s t children)) ≡ rows_of (or_empty (find step (child s t children)))
      by Less e later =
          under_both (at step) (map (row_behind (at s)) (rows_of t)) (rows_below children)
          ∙ ap (λ rows. rows ++ under (at step) (rows_below children)) (under_other (at step) (at s) (rows_of t) (λ f. let no : Less ≡ Equal = sym e ∙ f in cc))
          ∙ later ∙ ap (λ o. rows_of (or_empty o)) (sym (find_before step s t children e))
      by Greater e later =
          under_both (at step) (map (row_behind (at s)) (rows_of t)) (rows_below children)
          ∙ ap (λ rows. rows ++ under (at step) (rows_below children)) (under_other (at step) (at s) (rows_of t) (λ f. let no : Greater ≡ Equal = sym e ∙ f in cc))
          ∙ later ∙ ap (λ o. rows_of (or_empty o)) (sym (find_past step s t children e))
      by Equal e later =
          let same = equal_steps step s e in
          let gone : under (at step) (rows_below children) ≡ [] = later ∙ ap (λ o. rows_of (or_empty o)) (ap (λ x. find x children) same ∙ find_below s children rise.0) in
          under_both (at step) (map (row_behind (at s)) (rows_of t)) (rows_below children)
          ∙ (λ i. under (at step) (map (row_behind (at (sym same i))) (rows_of t)) ++ gone i)
          ∙ append-nil (under (at step) (map (row_behind (at step)) (rows_of t)))
          ∙ under_same (at step) (rows_of t)
          ∙ ap (λ o. rows_of (or_empty o)) (sym (ap (λ x. find x (child s t children)) same ∙ find_first s t children))

  under_no_step : (n : ℕ) (children : Children R) → under (from n) (rows_below children) ≡ []
  under_no_step n none = refl
  under_no_step n (child s t children) =
      under_both (from n) (map (row_behind (at s)) (rows_of t)) (rows_below children)
      ∙ (λ i. under_other (from n) (at s) (rows_of t) (λ f. cc) i ++ under_no_step n children i)

  under_no_rest : (step : Step) (rest : Rest R) → under (at step) (rows_onward rest) ≡ []
  under_no_rest step no_rest = refl
  under_no_rest step (onward n t) = under_other (at step) (from n) (rows_of t) (λ f. cc)

  under_rest : (n : ℕ) (rest : Rest R) → under (from n) (rows_onward rest) ≡ rows_of (or_empty (kept_rest n rest))
  under_rest n no_rest = refl
  under_rest n (onward m t) = by (nat_cmp n m) refl
    where
      here : n ≡ m → under (from n) (rows_onward (onward m t)) ≡ rows_of (or_empty (kept_rest n (onward m t)))
      here e = (λ i. under (from n) (map (row_behind (from (sym e i))) (rows_of t))) ∙ under_same (from n) (rows_of t) ∙ ap (λ o. rows_of (or_empty o)) (sym (ap (λ k. kept_rest k (onward m t)) e ∙ rest_kept m t))

      gone : (n ≡ m → ⊥) → kept_rest n (onward m t) ≡ None
      gone d = grind (arith, nat_tests)

      there : (n ≡ m → ⊥) → under (from n) (rows_onward (onward m t)) ≡ rows_of (or_empty (kept_rest n (onward m t)))
      there d =
          under_other (from n) (from m) (rows_of t) (λ f. let same : from n ≡ from m = equal_slots (from n) (from m) f in d cc)
          ∙ ap (λ o. rows_of (or_empty o)) (sym (gone d))

      by : (o : Ordering) → nat_cmp n m ≡ o → under (from n) (rows_onward (onward m t)) ≡ rows_of (or_empty (kept_rest n (onward m t)))
      by Equal e = let same : from n ≡ from m = equal_slots (from n) (from m) e in here cc
      by Less e = there (λ d. let eq : nat_cmp n m ≡ Equal = ap (nat_cmp n) (sym d) ∙ same_slot (from n) in let no : Less ≡ Equal = sym e ∙ eq in cc)
      by Greater e = there (λ d. let eq : nat_cmp n m ≡ Equal = ap (nat_cmp n) (sym d) ∙ same_slot (from n) in let no : Greater ≡ Equal = sym e ∙ eq in cc)

  -- nothing stands at a slot that is behind all branches
  first_before : (step s : Step) (t : Tree R) (children : Children R) → StepsRise (child s t children) → last_cmp step (child s t children) ≡ Less → step_cmp s step ≡ Less
  first_before step s t none rise l = l
  first_before step s t (child u v children) rise l = step_total.trans s u step rise.0.0 (first_before step u v children rise.1 l)

  last_before : (step s : Step) (t : Tree R) (children : Children R) → last_cmp step (child s t children) ≡ Less → last_cmp step children ≡ Less
  last_before step s t none l = refl
  last_before step s t (child u v children) l = l

  under_behind : (step : Step) (children : Children R) → StepsRise children → last_cmp step children ≡ Less → under (at step) (rows_below children) ≡ []
  under_behind step none rise l = refl
  under_behind step (child s t children) rise l =
      let other = reverse_cmp s step Less (first_before step s t children rise l) in
      under_both (at step) (map (row_behind (at s)) (rows_of t)) (rows_below children)
      ∙ (λ i. under_other (at step) (at s) (rows_of t) (λ f. let no : Greater ≡ Equal = sym other ∙ f in cc) i ++ under_behind step children rise.1 (last_before step s t children l) i)

  module _ (P : R → Type 0) where
    -- nor at that of a node that is open
    pub under_open : (tree : Tree R) (slot : Slot) → IsOpen P (tree, slot) → under slot (rows_of tree) ≡ []
    under_open (node here children no_rest) (at step) o =
        under_node (at step) here children no_rest ∙ append-nil (under (at step) (rows_below children)) ∙ under_behind step children (branches_rise P children o.form.1) o.behind
    under_open (node here children no_rest) (from n) o = under_node (from n) here children no_rest ∙ append-nil (under (from n) (rows_below children)) ∙ under_no_step n children
    under_open (node here children (onward m t)) slot o = let e : onward m t ≡ no_rest = o.rest in absurd cc

    form_found : (o : Option (Tree R)) → ((tree : Tree R) → o ≡ Some tree → IsTree P tree) → IsTree P (or_empty o)
    form_found None h = (tt, tt, tt)
    form_found (Some tree) h = h tree refl

    -- the rows below a slot are those of a tree in form
    pub under_tree : (tree : Tree R) (slot : Slot) → IsTree P tree → (found : Tree R) × IsTree P found × (rows_of found ≡ under slot (rows_of tree))
    under_tree (node here children rest) (at step) h = (
      or_empty (find step children),
      form_found (find step children) (λ tree e. (find_form P step children tree h.1 e).1),
      sym (under_node (at step) here children rest
          ∙ (λ i. under_step step children (branches_rise P children h.1) i ++ under_no_rest step rest i)
          ∙ append-nil (rows_of (or_empty (find step children)))),
    )
    under_tree (node here children no_rest) (from n) h = (
      empty,
      (tt, tt, tt),
      sym (under_node (from n) here children no_rest ∙ append-nil (under (from n) (rows_below children)) ∙ under_no_step n children),
    )
    under_tree (node here children (onward m t)) (from n) h = (
      or_empty (kept_rest n (onward m t)),
      form_found (kept_rest n (onward m t)) (λ tree e. subst (IsTree P) (rest_is n m t tree e).1 h.2.3),
      sym (under_node (from n) here children (onward m t)
          ∙ (λ i. under_no_step n children i ++ under_rest n (onward m t) i)),
    )

  -- rows beyond a path are beyond what follows its first slot
  beyond_at_front : (slot : Slot) (path place : Place) (row : R) (rows : List (Place × R)) → IsBeyond (slot ∷ path) place → AllByRecursion (λ (r : Place × R). IsBeyond path r.0) rows → AllByRecursion (λ (r : Place × R). IsBeyond path r.0) (picked_at slot place row rows)
  beyond_at_front slot path [] row rows b h = absurd b
  beyond_at_front slot path (first ∷ place) row rows b h = by (slot_cmp slot first) refl
    where
      by : (o : Ordering) → slot_cmp slot first ≡ o → AllByRecursion (λ (r : Place × R). IsBeyond path r.0) (picked o (place, row) rows)
      by Less e = h
      by Greater e = h
      by Equal e = (⊎_elim (λ k. let no : Less ≡ Equal = sym k ∙ e in absurd cc) (λ k. k.1) b, h)

  under_beyond : (slot : Slot) (path : Place) (rows : List (Place × R)) → AllByRecursion (λ (r : Place × R). IsBeyond (slot ∷ path) r.0) rows → AllByRecursion (λ (r : Place × R). IsBeyond path r.0) (under slot rows)
  under_beyond slot path [] h = tt
  under_beyond slot path (row ∷ rows) h = beyond_at_front slot path row.0 row.1 (under slot rows) h.0 (under_beyond slot path rows h.1)

  -- What is closed early is in form, if the rows are those of a tree in form, with rows beyond it behind them.
  pub closed_early :
      (P : R → Type 0) (front : List (Tree R × Slot)) (last tree : Tree R) (more : List (Place × R)) → AllByRecursion (IsOpen P) front → IsLoose P last → IsTree P tree
      → AllByRecursion (λ (r : Place × R). IsBeyond (slots_above front) r.0) more → rows_of tree ≡ rows_of (close_trees front last) ++ more → IsTree P last
  closed_early P [] last tree [] h l k b e = subst (IsTree P) (same_lists P tree last (loosened P tree k) l (e ∙ append-nil (rows_of last))) k
  closed_early P [] last tree (row ∷ more) h l k b e = absurd b.0
  closed_early P (o ∷ front) last tree more h l k b e =
      let found = under_tree P tree o.1 k in
      let branch : List (Place × R) = rows_of (close_trees front last) in
      let whole : List (Place × R) = rows_of (close_trees (o ∷ front) last) in
      let these : under o.1 whole ≡ branch =
      ap (under o.1) (rows_hung o.0 o.1 (close_trees front last) h.0.rest) ∙ under_both o.1 (rows_of o.0) (map (row_behind o.1) branch)
      ∙ (λ i. under_open P o.0 o.1 h.0 i ++ under_same o.1 branch i) in
      closed_early P front last found.0 (under o.1 more) h.1 l found.1 (under_beyond o.1 (slots_above front) more b)
      (found.2 ∙ ap (under o.1) e ∙ under_both o.1 whole more ∙ ap (λ rows. rows ++ under o.1 more) these)
