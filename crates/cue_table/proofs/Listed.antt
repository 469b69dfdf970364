-- The list of a tree's rows is in the order of their places, and has just the rows that are kept at places.
use Rattle.std.proofs.Common.{◌≡◌, ◌⊎◌, inl, inr, ⊎_elim, ℕ, nat_eq, Bool, true, false, if◌then◌else◌, List, [], ◌∷◌, ◌++◌, map, Option, Some, None, refl, sym, ap, subst, ◌∙◌, arith}
use Rattle.std.specs.Option.{option_and_then, option_to_list}
use Rattle.std.specs.List.{AllByRecursion}
use Rattle.std.specs.List.Sorted.{IsStrictlySortedBy}
use Rattle.std.specs.declared.cmp.Ordering.{Ordering}
use Rattle.std.specs.declared.cmp.Ordering.TheVariants.{Less, Equal, Greater}
use Rattle.std.proofs.lemmas.Bool.Decides.{nat_tests}
use Rattle.cue_lattice.specs.OneOf.{OneOf}
use Rattle.cue_lattice.specs.Path.{Step, step_cmp}
use Rattle.cue_table.specs.Tree.{Tree, node, Children, none, child, Rest, no_rest, onward, row_of, if_equal, find}
use Rattle.cue_table.specs.Slots.{Slot, at, from, slot_cmp, Place, place_cmp, row_behind, rows_of, rows_below, rows_onward}
use Rattle.cue_table.specs.Form.{IsStepBelowAll}
use Rattle.cue_table.specs.Inner.Loose.{IsLoose, AreLoose, IsLooseRest}
use Rattle.cue_table.specs.Rows.{by_place, InPlaceOrder, AreRows, kept_rest, kept_branch, kept_row}
use Rattle.cue_table.proofs.Order.{equal_steps}
use Rattle.cue_table.proofs.SlotOrder.{later_slot, same_behind}
use Rattle.cue_table.proofs.Branches.{find_first}
use Rattle.cue_table.proofs.Depth.{found_later}

-- what holds of all elements of two lists holds of all of both joined
pub all_append : {X : Type 0} (P : X → Type 0) (xs ys : List X) → AllByRecursion P xs → AllByRecursion P ys → AllByRecursion P (xs ++ ys)
all_append P [] ys h k = k
all_append P (x ∷ xs) ys h k = (h.0, all_append P xs ys h.1 k)

sorted_append :
    {X : Type 0} (c : X → X → Ordering) (xs ys : List X) → IsStrictlySortedBy c xs → IsStrictlySortedBy c ys
    → AllByRecursion (λ x. AllByRecursion (λ y. c x y ≡ Less) ys) xs → IsStrictlySortedBy c (xs ++ ys)
unfolding IsStrictlySortedBy
sorted_append c [] ys h k b = k
sorted_append c (x ∷ xs) ys h k b = (all_append (λ y. c x y ≡ Less) xs ys h.0 b.0, sorted_append c xs ys h.1 k b.1)

module _ {R : Type 0} where
  -- the place is before those of all rows
  abbrev IsBefore : Place → List (Place × R) → Type 0
  IsBefore place = AllByRecursion (λ row. place_cmp place row.0 ≡ Less)

  behind_before : (slot : Slot) (place : Place) (rows : List (Place × R)) → IsBefore place rows → IsBefore (slot ∷ place) (map (row_behind slot) rows)
  behind_before slot place [] h = tt
  behind_before slot place (row ∷ rows) h = (same_behind slot place row.0 ∙ h.0, behind_before slot place rows h.1)

  behind_sorted : (slot : Slot) (rows : List (Place × R)) → IsStrictlySortedBy by_place rows → IsStrictlySortedBy by_place (map (row_behind slot) rows)
  unfolding IsStrictlySortedBy
  behind_sorted slot [] h = tt
  behind_sorted slot (row ∷ rows) h = (behind_before slot row.0 rows h.0, behind_sorted slot rows h.1)

  after_slot : (s u : Slot) (place : Place) (rows : List (Place × R)) → slot_cmp s u ≡ Less → IsBefore (s ∷ place) (map (row_behind u) rows)
  after_slot s u place [] h = tt
  after_slot s u place (row ∷ rows) h = (later_slot s u place row.0 h, after_slot s u place rows h)

  after_below : (s : Step) (place : Place) (children : Children R) → IsStepBelowAll s children → IsBefore (at s ∷ place) (rows_below children)
  after_below s place none h = tt
  after_below s place (child u tree children) h =
      all_append (λ (row : Place × R). place_cmp (at s ∷ place) row.0 ≡ Less) (map (row_behind (at u)) (rows_of tree)) (rows_below children)
      (after_slot (at s) (at u) place (rows_of tree) h.0) (after_below s place children h.1)

  after_onward : (s : Step) (place : Place) (rest : Rest R) → IsBefore (at s ∷ place) (rows_onward rest)
  after_onward s place no_rest = tt
  after_onward s place (onward n tree) = after_slot (at s) (from n) place (rows_of tree) refl

  each_before : (s : Step) (rows : List (Place × R)) (children : Children R) → IsStepBelowAll s children → AllByRecursion (λ (row : Place × R). IsBefore row.0 (rows_below children)) (map (row_behind (at s)) rows)
  each_before s [] children h = tt
  each_before s (row ∷ rows) children h = (after_below s row.0 children h, each_before s rows children h)

  each_onward : (s : Step) (rows : List (Place × R)) (rest : Rest R) → AllByRecursion (λ (row : Place × R). IsBefore row.0 (rows_onward rest)) (map (row_behind (at s)) rows)
  each_onward s [] rest = tt
  each_onward s (row ∷ rows) rest = (after_onward s row.0 rest, each_onward s rows rest)

  all_onward : (children : Children R) (rest : Rest R) → AllByRecursion (λ (row : Place × R). IsBefore row.0 (rows_onward rest)) (rows_below children)
  all_onward none rest = tt
  all_onward (child s tree children) rest =
      all_append (λ (row : Place × R). IsBefore row.0 (rows_onward rest)) (map (row_behind (at s)) (rows_of tree)) (rows_below children)
      (each_onward s (rows_of tree) rest) (all_onward children rest)

  root_before_slot : (u : Slot) (rows : List (Place × R)) → IsBefore [] (map (row_behind u) rows)
  root_before_slot u [] = tt
  root_before_slot u (row ∷ rows) = (refl, root_before_slot u rows)

  root_before : (children : Children R) → IsBefore [] (rows_below children)
  root_before none = tt
  root_before (child u tree children) =
      all_append (λ (row : Place × R). place_cmp [] row.0 ≡ Less) (map (row_behind (at u)) (rows_of tree)) (rows_below children)
      (root_before_slot (at u) (rows_of tree)) (root_before children)

  root_before_rest : (rest : Rest R) → IsBefore [] (rows_onward rest)
  root_before_rest no_rest = tt
  root_before_rest (onward n tree) = root_before_slot (from n) (rows_of tree)

  both_sorted :
      (children : Children R) (rest : Rest R) → IsStrictlySortedBy by_place (rows_below children) → IsStrictlySortedBy by_place (rows_onward rest)
      → IsStrictlySortedBy by_place (rows_below children ++ rows_onward rest)
  both_sorted children rest h k = sorted_append by_place (rows_below children) (rows_onward rest) h k (all_onward children rest)

  mutual
    unfolding IsStrictlySortedBy

    pub rows_sorted : (P : R → Type 0) (tree : Tree R) → IsLoose P tree → InPlaceOrder tree
    rows_sorted P (node None children rest) h = both_sorted children rest (below_sorted P children h.1) (onward_sorted P rest h.2)
    rows_sorted P (node (Some row) children rest) h = (
      all_append (λ (later : Place × R). place_cmp [] later.0 ≡ Less) (rows_below children) (rows_onward rest) (root_before children) (root_before_rest rest),
      both_sorted children rest (below_sorted P children h.1) (onward_sorted P rest h.2),
    )

    below_sorted : (P : R → Type 0) (children : Children R) → AreLoose P children → IsStrictlySortedBy by_place (rows_below children)
    below_sorted P none h = tt
    below_sorted P (child step tree children) h =
        sorted_append by_place (map (row_behind (at step)) (rows_of tree)) (rows_below children) (behind_sorted (at step) (rows_of tree) (rows_sorted P tree h.2)) (below_sorted P children h.3)
        (each_before step (rows_of tree) children h.0)

    onward_sorted : (P : R → Type 0) (rest : Rest R) → IsLooseRest P rest → IsStrictlySortedBy by_place (rows_onward rest)
    onward_sorted P no_rest h = tt
    onward_sorted P (onward n tree) h = behind_sorted (from n) (rows_of tree) (rows_sorted P tree h.1)

  -- a row at its place
  abbrev pub Is : Place → R → Place × R → Type 0
  Is place row item = item ≡ (place, row)

  pub one_left : (P : Place × R → Type 0) (xs ys : List (Place × R)) → OneOf P xs → OneOf P (xs ++ ys)
  one_left P [] ys h = absurd h
  one_left P (x ∷ xs) ys h = ⊎_elim (λ k. inl k) (λ k. inr (one_left P xs ys k)) h

  pub one_right : (P : Place × R → Type 0) (xs ys : List (Place × R)) → OneOf P ys → OneOf P (xs ++ ys)
  one_right P [] ys h = h
  one_right P (x ∷ xs) ys h = inr (one_right P xs ys h)

  one_of_both : (P : Place × R → Type 0) (xs ys : List (Place × R)) → OneOf P (xs ++ ys) → OneOf P xs ⊎ OneOf P ys
  one_of_both P [] ys h = inr h
  one_of_both P (x ∷ xs) ys h = ⊎_elim (λ k. inl (inl k)) (λ k. ⊎_elim (λ l. inl (inr l)) (λ l. inr l) (one_of_both P xs ys k)) h

  one_behind : (slot : Slot) (place : Place) (row : R) (rows : List (Place × R)) → OneOf (Is place row) rows → OneOf (Is (slot ∷ place) row) (map (row_behind slot) rows)
  one_behind slot place row [] h = absurd h
  one_behind slot place row (item ∷ rows) h = ⊎_elim (λ e. inl (ap (row_behind slot) e)) (λ k. inr (one_behind slot place row rows k)) h

  -- where a row of the list is kept, it is one of the branch
  behind_one :
      (slot : Slot) (place : Place) (row : R) (rows : List (Place × R)) → OneOf (Is place row) (map (row_behind slot) rows)
      → (left : Place) × (place ≡ slot ∷ left) × OneOf (Is left row) rows
  behind_one slot place row [] h = absurd h
  behind_one slot place row (item ∷ rows) h =
      ⊎_elim
      (λ (e : (slot ∷ item.0, item.1) ≡ (place, row)).
      let same : item.1 ≡ row = ap (λ (x : Place × R). x.1) e in
      (item.0, sym (ap (λ (x : Place × R). x.0) e), inl (ap (λ r. (item.0, r)) same)))
      (λ k. let left = behind_one slot place row rows k in (left.0, left.1, inr left.2))
      h

  -- the row that is kept at a place of a branch that may be there
  abbrev pub kept_in : Option (Tree R) → Place → Option R
  kept_in found place = option_and_then row_of (option_and_then (λ branch. kept_branch branch place) found)

  pub kept_found : (found : Option (Tree R)) (place : Place) (row : R) → kept_in found place ≡ Some row → (tree : Tree R) × (found ≡ Some tree) × (kept_row tree place ≡ Some row)
  kept_found None place row e = cc
  kept_found (Some tree) place row e = (tree, refl, e)

  -- the rest is kept at its own slot
  pub rest_kept : (n : ℕ) (tree : Tree R) → kept_rest n (onward n tree) ≡ Some tree
  rest_kept n tree = grind (arith, nat_tests)

  pub rest_is : (m n : ℕ) (tree found : Tree R) → kept_rest m (onward n tree) ≡ Some found → (m ≡ n) × (tree ≡ found)
  rest_is m n tree found e = by (nat_eq m n) refl e
    where
      by : (b : Bool) → nat_eq m n ≡ b → (if b then Some tree else None) ≡ Some found → (m ≡ n) × (tree ≡ found)
      by true h k = (grind (arith, nat_tests), cc)
      by false h k = cc

  -- a row that is kept below a step
  abbrev IsOwnRow : Children R → Place → R → Type 0
  IsOwnRow children place row = (step : Step) × (left : Place) × (place ≡ at step ∷ left) × (kept_in (find step children) left ≡ Some row)

  -- a row that is kept in the rest
  abbrev IsRestRow : Rest R → Place → R → Type 0
  IsRestRow rest place row = (n : ℕ) × (left : Place) × (place ≡ from n ∷ left) × (kept_in (kept_rest n rest) left ≡ Some row)

  listed_both :
      (here : Option R) (children : Children R) (rest : Rest R) (place : Place) (row : R) → (OneOf (Is place row) (rows_below children) → IsOwnRow children place row)
      → (OneOf (Is place row) (rows_onward rest) → IsRestRow rest place row)
      → OneOf (Is place row) (rows_below children ++ rows_onward rest) → kept_row (node here children rest) place ≡ Some row
  listed_both here children rest place row f g l =
      ⊎_elim
      (λ o. let found = f o in subst (λ p. kept_row (node here children rest) p ≡ Some row) (sym found.2) found.3)
      (λ o. let found = g o in subst (λ p. kept_row (node here children rest) p ≡ Some row) (sym found.2) found.3)
      (one_of_both (Is place row) (rows_below children) (rows_onward rest) l)

  mutual
    listed_at : (P : R → Type 0) (tree : Tree R) (place : Place) (row : R) → IsLoose P tree → OneOf (Is place row) (rows_of tree) → kept_row tree place ≡ Some row
    listed_at P (node None children rest) place row h k = listed_both None children rest place row (listed_below P children place row h.1) (listed_onward P rest place row h.2) k
    listed_at P (node (Some here) children rest) place row h k =
        ⊎_elim
        (λ (e : ([], here) ≡ (place, row)).
        let root : [] ≡ place = ap (λ (x : Place × R). x.0) e in
        let same : here ≡ row = ap (λ (x : Place × R). x.1) e in
        ap (kept_row (node (Some here) children rest)) (sym root) ∙ ap Some same)
        (λ l. listed_both (Some here) children rest place row (listed_below P children place row h.1) (listed_onward P rest place row h.2) l)
        k

    listed_below :
        (P : R → Type 0) (children : Children R) (place : Place) (row : R) → AreLoose P children → OneOf (Is place row) (rows_below children)
        → IsOwnRow children place row
    listed_below P none place row h k = absurd k
    listed_below P (child step tree children) place row h k =
        ⊎_elim
        (λ l. let first = behind_one (at step) place row (rows_of tree) l in
        (step, first.0, first.1, ap (λ f. kept_in f first.0) (find_first step tree children) ∙ listed_at P tree first.0 row h.2 first.2))
        (λ l. let later = listed_below P children place row h.3 l in
        let found = kept_found (find later.0 children) later.1 row later.3 in
        (later.0, later.1, later.2, ap (λ f. kept_in f later.1) (found_later step tree children h.0 later.0 found.0 found.1 (step_cmp later.0 step) refl) ∙ found.2))
        (one_of_both (Is place row) (map (row_behind (at step)) (rows_of tree)) (rows_below children) k)

    listed_onward :
        (P : R → Type 0) (rest : Rest R) (place : Place) (row : R) → IsLooseRest P rest → OneOf (Is place row) (rows_onward rest)
        → IsRestRow rest place row
    listed_onward P no_rest place row h k = absurd k
    listed_onward P (onward n tree) place row h k =
        let first = behind_one (from n) place row (rows_of tree) k in
        (n, first.0, first.1, ap (λ f. kept_in f first.0) (rest_kept n tree) ∙ listed_at P tree first.0 row h.1 first.2)

  one_found :
      (step next : Step) (here : Tree R) (other : Option (Tree R)) (tree : Tree R) (P : Step → Tree R → Type 0) → (step ≡ next → here ≡ tree → P step tree) → (other ≡ Some tree → P step tree)
      → (o : Ordering) → step_cmp step next ≡ o → if_equal o here other ≡ Some tree → P step tree
  one_found step next here other tree P h k Less c e = k e
  one_found step next here other tree P h k Greater c e = k e
  one_found step next here other tree P h k Equal c e = let same : here ≡ tree = cc in h (equal_steps step next c) same

  -- the rows of a branch that is found are listed with all
  listed_found : (step : Step) (children : Children R) (tree : Tree R) (place : Place) (row : R) → find step children ≡ Some tree → OneOf (Is place row) (rows_of tree) → OneOf (Is (at step ∷ place) row) (rows_below children)
  listed_found step none tree place row e h = cc
  listed_found step (child next here children) tree place row e h =
      one_found step next here (find step children) tree (λ s t. OneOf (Is (at s ∷ place) row) (rows_below (child next here children)))
      (λ steps same.
      one_left (Is (at step ∷ place) row) (map (row_behind (at next)) (rows_of here)) (rows_below children)
      (subst (λ s. OneOf (Is (at step ∷ place) row) (map (row_behind (at s)) (rows_of here))) steps
      (subst (λ t. OneOf (Is (at step ∷ place) row) (map (row_behind (at step)) (rows_of t))) (sym same) (one_behind (at step) place row (rows_of tree) h))))
      (λ f. one_right (Is (at step ∷ place) row) (map (row_behind (at next)) (rows_of here)) (rows_below children) (listed_found step children tree place row f h))
      (step_cmp step next) refl e

  listed_rest : (n : ℕ) (rest : Rest R) (tree : Tree R) (place : Place) (row : R) → kept_rest n rest ≡ Some tree → OneOf (Is place row) (rows_of tree) → OneOf (Is (from n ∷ place) row) (rows_onward rest)
  listed_rest n no_rest tree place row e h = cc
  listed_rest n (onward m here) tree place row e h =
      let same = rest_is n m here tree e in
      subst (λ k. OneOf (Is (from n ∷ place) row) (map (row_behind (from k)) (rows_of here))) same.0
      (subst (λ t. OneOf (Is (from n ∷ place) row) (map (row_behind (from n)) (rows_of t))) (sym same.1) (one_behind (from n) place row (rows_of tree) h))

  with_root : (here : Option R) (place : Place) (row : R) (rows : List (Place × R)) → OneOf (Is place row) rows → OneOf (Is place row) (map (λ r. ([], r)) (option_to_list here) ++ rows)
  with_root here place row rows h = one_right (Is place row) (map (λ r. ([], r)) (option_to_list here)) rows h

  pub at_listed : (tree : Tree R) (place : Place) (row : R) → kept_row tree place ≡ Some row → OneOf (Is place row) (rows_of tree)
  at_listed (node None children rest) [] row e = cc
  at_listed (node (Some here) children rest) [] row e = let same : here ≡ row = cc in inl (ap (λ r. ([], r)) same)
  at_listed (node here children rest) (at step ∷ place) row e =
      let found = kept_found (find step children) place row e in
      with_root here (at step ∷ place) row (rows_below children ++ rows_onward rest)
      (one_left (Is (at step ∷ place) row) (rows_below children) (rows_onward rest) (listed_found step children found.0 place row found.1 (at_listed found.0 place row found.2)))
  at_listed (node here children rest) (from n ∷ place) row e =
      let found = kept_found (kept_rest n rest) place row e in
      with_root here (from n ∷ place) row (rows_below children ++ rows_onward rest)
      (one_right (Is (from n ∷ place) row) (rows_below children) (rows_onward rest) (listed_rest n rest found.0 place row found.1 (at_listed found.0 place row found.2)))

  pub rows_listed : (P : R → Type 0) (tree : Tree R) → IsLoose P tree → AreRows tree
  rows_listed P tree h place row = (λ k. listed_at P tree place row h k, λ e. at_listed tree place row e)
