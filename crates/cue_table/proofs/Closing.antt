-- A branch hung in behind the others of a place, and open nodes hung into those above them.
use Rattle.std.proofs.Common.{◌≡◌, ◌+◌, ◌≤◌, ◌^◌, max, ℕ, List, [], ◌∷◌, ◌++◌, append_assoc, map, length, Some, None, refl, sym, ap, subst, ◌∙◌, arith}
use Rattle.std.specs.Option.{option_to_list}
use Rattle.std.specs.List.{AllByRecursion}
use Rattle.std.proofs.lemmas.List.{append-nil, map-append}
use Rattle.std.specs.declared.cmp.Ordering.TheVariants.{Less}
use Rattle.cue_lattice.specs.Path.{Step, step_cmp}
use Rattle.cue_table.specs.Depth.{tree_depth, children_depth}
use Rattle.cue_table.specs.Form.{IsTreeTaken, IsTree, AreBranches}
use Rattle.cue_table.specs.Slots.{Slot, at, from, slot_cmp, Place, row_behind, rows_of, rows_below}
use Rattle.cue_table.specs.Tree.{Tree, node, Children, none, child, no_rest, onward, below, rest_below}
use Rattle.cue_table.specs.Inner.Join.{join_children}
use Rattle.cue_table.specs.Inner.Loose.{IsLoose, AreLoose, IsBehind}
use Rattle.cue_table.specs.Inner.Opened.{hang_branch, close_trees, IsBehindAll, IsOpen}
use Rattle.cue_table.specs.Inner.RowList.{last_cmp}
use Rattle.cue_table.proofs.Branches.{below_all}
use Rattle.cue_table.proofs.Listed.{all_append}
use Rattle.cue_table.proofs.Loosened.{loosened}

-- one more list behind two and none
joined_more : {X : Type 0} (a b x : List X) → a ++ ((b ++ x) ++ []) ≡ (a ++ (b ++ [])) ++ x
joined_more a b x = ap (λ ys. a ++ ys) (append-nil (b ++ x)) ∙ ap (λ ys. a ++ (ys ++ x)) (sym (append-nil b)) ∙ sym (append_assoc a (b ++ []) x)

module _ {R : Type 0} where
  -- ---- one branch hung in

  below_joined : (children others : Children R) → rows_below (join_children children others) ≡ rows_below children ++ rows_below others
  below_joined none others = refl
  below_joined (child s t children) others =
      ap (λ rows. map (row_behind (at s)) (rows_of t) ++ rows) (below_joined children others) ∙ sym (append_assoc (map (row_behind (at s)) (rows_of t)) (rows_below children) (rows_below others))

  -- its rows stand behind the others
  pub rows_hung : (tree : Tree R) (slot : Slot) (b : Tree R) → rest_below tree ≡ no_rest → rows_of (hang_branch tree slot b) ≡ rows_of tree ++ map (row_behind slot) (rows_of b)
  rows_hung (node here children no_rest) (at step) b e =
      let own : List (Place × R) = map (λ r. ([], r)) (option_to_list here) in
      let more : List (Place × R) = map (row_behind (at step)) (rows_of b) in
      ap (λ rows. own ++ (rows ++ [])) (below_joined children (child step b none) ∙ ap (λ rows. rows_below children ++ rows) (append-nil more)) ∙ joined_more own (rows_below children) more
  rows_hung (node here children no_rest) (from n) b e =
      let own : List (Place × R) = map (λ r. ([], r)) (option_to_list here) in
      let more : List (Place × R) = map (row_behind (from n)) (rows_of b) in
      ap (λ rows. own ++ (rows ++ more)) (sym (append-nil (rows_below children))) ∙ sym (append_assoc own (rows_below children ++ []) more)
  rows_hung (node here children (onward m t)) slot b e = absurd cc

  -- a place at which a branch hangs is not empty
  pub hung_taken : (tree : Tree R) (slot : Slot) (b : Tree R) → IsTreeTaken (hang_branch tree slot b)
  hung_taken (node (Some r) children rest) (at step) b = tt
  hung_taken (node None none rest) (at step) b = tt
  hung_taken (node None (child s c children) rest) (at step) b = tt
  hung_taken (node (Some r) children rest) (from n) b = tt
  hung_taken (node None none rest) (from n) b = tt
  hung_taken (node None (child s c children) rest) (from n) b = tt

  depth_joined : (children : Children R) (step : Step) (b : Tree R) → children_depth (join_children children (child step b none)) ≡ max (children_depth children) (tree_depth b + 1)
  depth_joined none step b = omega arith
  depth_joined (child s c children) step b = omega (arith, depth_joined children step b)

  pub hung_depth : (tree : Tree R) (slot : Slot) (b : Tree R) → rest_below tree ≡ no_rest → tree_depth (hang_branch tree slot b) ≡ max (tree_depth tree) (tree_depth b + 1)
  hung_depth (node here children no_rest) (at step) b e = omega (arith, depth_joined children step b)
  hung_depth (node here children no_rest) (from n) b e = omega arith
  hung_depth (node here children (onward m t)) slot b e = absurd cc

  -- how a step compares with the last branch once one is hung in
  pub last_joined : (children : Children R) (step later : Step) (b : Tree R) → last_cmp later (join_children children (child step b none)) ≡ step_cmp step later
  last_joined none step later b = refl
  last_joined (child s t none) step later b = refl
  last_joined (child s t (child u v children)) step later b = last_joined (child u v children) step later b

  -- a slot behind that of the branch is behind all
  pub hung_behind : (tree : Tree R) (step : Step) (b : Tree R) (later : Slot) → slot_cmp (at step) later ≡ Less → IsBehindAll later (below (hang_branch tree (at step) b))
  hung_behind (node here children rest) step b (at t) h = last_joined children step t b ∙ h
  hung_behind (node here children rest) step b (from n) h = tt

  -- and a branch below a step leaves the place without a rest
  pub hung_rest : (tree : Tree R) (step : Step) (b : Tree R) → rest_below (hang_branch tree (at step) b) ≡ rest_below tree
  hung_rest (node here children rest) step b = refl

  module _ (P : R → Type 0) where
    branches_more : (children : Children R) (step : Step) (b : Tree R) → last_cmp step children ≡ Less → AreBranches P children → IsTreeTaken b → IsTree P b → AreBranches P (join_children children (child step b none))
    branches_more none step b l h t k = (tt, t, k, tt)
    branches_more (child s c none) step b l h t k = ((l, tt), h.1, h.2, (tt, t, k, tt))
    branches_more (child s c (child u d children)) step b l h t k =
        let more = branches_more (child u d children) step b l h.3 t k in
        ((h.0.0, below_all s u (join_children children (child step b none)) h.0.0 more.0), h.1, h.2, more)

    loose_more : (children : Children R) (step : Step) (b : Tree R) → last_cmp step children ≡ Less → AreLoose P children → IsTreeTaken b → IsLoose P b → AreLoose P (join_children children (child step b none))
    loose_more none step b l h t k = (tt, t, k, tt)
    loose_more (child s c none) step b l h t k = ((l, tt), h.1, h.2, (tt, t, k, tt))
    loose_more (child s c (child u d children)) step b l h t k =
        let more = loose_more (child u d children) step b l h.3 t k in
        ((h.0.0, below_all s u (join_children children (child step b none)) h.0.0 more.0), h.1, h.2, more)

    -- a branch in form, hung in below a step
    pub hung_at_form : (tree : Tree R) (step : Step) (b : Tree R) → IsOpen P (tree, at step) → IsTreeTaken b → IsTree P b → IsTree P (hang_branch tree (at step) b)
    hung_at_form (node here children no_rest) step b o t k = (o.form.0, branches_more children step b o.behind o.form.1 t k, tt)
    hung_at_form (node here children (onward m c)) step b o t k = let e : onward m c ≡ no_rest = o.rest in absurd cc

    -- and as the rest, where it begins right
    pub hung_from_form : (tree : Tree R) (n : ℕ) (b : Tree R) → IsOpen P (tree, from n) → IsTreeTaken b → IsTree P b → IsBehind n b (below tree) → n ≤ 2 ^ 32 → IsTree P (hang_branch tree (from n) b)
    hung_from_form (node here children rest) n b o t k begins few = (o.form.0, o.form.1, (begins.0, begins.1, t, k, few))

    -- which it has to
    pub hung_from_begins : (tree : Tree R) (n : ℕ) (b : Tree R) → IsTree P (hang_branch tree (from n) b) → IsBehind n b (below tree) × (n ≤ 2 ^ 32)
    hung_from_begins (node here children rest) n b h = let r = h.2 in ((r.0, r.1), r.4)

    pub hung_loose : (tree : Tree R) (slot : Slot) (b : Tree R) → IsOpen P (tree, slot) → IsTreeTaken b → IsLoose P b → IsLoose P (hang_branch tree slot b)
    hung_loose (node here children no_rest) (at step) b o t k = let l = loosened P (node here children no_rest) o.form in (l.0, loose_more children step b o.behind l.1 t k, tt)
    hung_loose (node here children (onward m c)) (at step) b o t k = let e : onward m c ≡ no_rest = o.rest in absurd cc
    hung_loose (node here children rest) (from n) b o t k = let l = loosened P (node here children rest) o.form in (l.0, l.1, (t, k))

    first_slot : (slot : Slot) → IsBehindAll {R = R} slot none
    first_slot (at step) = refl
    first_slot (from n) = tt

    -- a place without branches goes on at each slot
    pub leaf_open : (tree : Tree R) (slot : Slot) → IsTree P tree → below tree ≡ none → rest_below tree ≡ no_rest → IsOpen P (tree, slot)
    leaf_open tree slot h e f = record { form = h; rest = f; behind = subst (IsBehindAll slot) (sym e) (first_slot slot) }

  -- ---- the open nodes

  -- the slots at which they go on
  abbrev pub slots_above : List (Tree R × Slot) → Place
  slots_above = map (λ o. o.1)

  -- the last of them closed
  pub closed_step : (above : List (Tree R × Slot)) (tree : Tree R) (slot : Slot) (last : Tree R) → close_trees (above ++ (tree, slot) ∷ []) last ≡ close_trees above (hang_branch tree slot last)
  closed_step [] tree slot last = refl
  closed_step (o ∷ above) tree slot last = ap (hang_branch o.0 o.1) (closed_step above tree slot last)

  -- the rows of all nodes but the last
  abbrev pub rows_above : List (Tree R × Slot) → List (Place × R)
  rows_above [] = []
  rows_above (o ∷ above) = rows_of o.0 ++ map (row_behind o.1) (rows_above above)

  -- a row so many slots further from the root
  abbrev pub deeper : Place → Place × R → Place × R
  deeper path row = (path ++ row.0, row.1)

  none_deeper : (rows : List (Place × R)) → map (deeper []) rows ≡ rows
  none_deeper [] = refl
  none_deeper (row ∷ rows) = ap (λ xs. row ∷ xs) (none_deeper rows)

  one_deeper : (slot : Slot) (path : Place) (rows : List (Place × R)) → map (row_behind slot) (map (deeper path) rows) ≡ map (deeper (slot ∷ path)) rows
  one_deeper slot path [] = refl
  one_deeper slot path (row ∷ rows) = ap (λ xs. (slot ∷ (path ++ row.0), row.1) ∷ xs) (one_deeper slot path rows)

  module _ (P : R → Type 0) where
    -- the rows of the last node stand behind all others
    pub rows_closed : (above : List (Tree R × Slot)) (last : Tree R) → AllByRecursion (IsOpen P) above → rows_of (close_trees above last) ≡ rows_above above ++ map (deeper (slots_above above)) (rows_of last)
    rows_closed [] last h = sym (none_deeper (rows_of last))
    rows_closed (o ∷ above) last h =
        let front : List (Place × R) = map (row_behind o.1) (rows_above above) in
        let these : List (Place × R) = map (deeper (slots_above above)) (rows_of last) in
        rows_hung o.0 o.1 (close_trees above last) h.0.rest
        ∙ ap (λ rows. rows_of o.0 ++ map (row_behind o.1) rows) (rows_closed above last h.1)
        ∙ ap (λ rows. rows_of o.0 ++ rows) (map-append (row_behind o.1) (rows_above above) these ∙ ap (λ rows. front ++ rows) (one_deeper o.1 (slots_above above) (rows_of last)))
        ∙ sym (append_assoc (rows_of o.0) front (map (deeper (o.1 ∷ slots_above above)) (rows_of last)))

    -- one row alone at the end
    pub rows_last : (above : List (Tree R × Slot)) (row : R) → AllByRecursion (IsOpen P) above → rows_of (close_trees above (node (Some row) none no_rest)) ≡ rows_above above ++ (slots_above above, row) ∷ []
    rows_last above row h = rows_closed above (node (Some row) none no_rest) h ∙ ap (λ place. rows_above above ++ (place, row) ∷ []) (append-nil (slots_above above))

    -- all that is closed is in the form that its rows give it
    pub closed_loose : (above : List (Tree R × Slot)) (last : Tree R) → AllByRecursion (IsOpen P) above → IsTreeTaken last → IsLoose P last → IsTreeTaken (close_trees above last) × IsLoose P (close_trees above last)
    closed_loose [] last h t k = (t, k)
    closed_loose (o ∷ above) last h t k =
        let below = closed_loose above last h.1 t k in
        (hung_taken o.0 o.1 (close_trees above last), hung_loose P o.0 o.1 (close_trees above last) h.0 below.0 below.1)

    -- how deep all that is closed is
    pub closed_depth : (above : List (Tree R × Slot)) (last : Tree R) → AllByRecursion (IsOpen P) above → length above + tree_depth last ≤ tree_depth (close_trees above last)
    closed_depth [] last h = omega arith
    closed_depth (o ∷ above) last h = omega (arith, closed_depth above last h.1, hung_depth o.0 o.1 (close_trees above last) h.0.rest)

    pub depth_with : (above : List (Tree R × Slot)) (last other : Tree R) → AllByRecursion (IsOpen P) above → tree_depth (close_trees above other) ≤ max (tree_depth (close_trees above last)) (length above + tree_depth other)
    depth_with [] last other h = omega arith
    depth_with (o ∷ above) last other h = omega (arith, depth_with above last other h.1, hung_depth o.0 o.1 (close_trees above last) h.0.rest, hung_depth o.0 o.1 (close_trees above other) h.0.rest)

    -- each of two lists of open nodes
    pub open_front : (front back : List (Tree R × Slot)) → AllByRecursion (IsOpen P) (front ++ back) → AllByRecursion (IsOpen P) front
    open_front [] back h = tt
    open_front (o ∷ front) back h = (h.0, open_front front back h.1)

    pub open_back : (front back : List (Tree R × Slot)) → AllByRecursion (IsOpen P) (front ++ back) → AllByRecursion (IsOpen P) back
    open_back [] back h = h
    open_back (o ∷ front) back h = open_back front back h.1

    pub open_more : (front : List (Tree R × Slot)) (tree : Tree R) (slot : Slot) → AllByRecursion (IsOpen P) front → IsOpen P (tree, slot) → AllByRecursion (IsOpen P) (front ++ (tree, slot) ∷ [])
    open_more front tree slot h o = all_append (IsOpen P) front ((tree, slot) ∷ []) h (o, tt)

  -- a node without branches is one row, if it is not empty
  pub leaf_row : (tree : Tree R) → below tree ≡ none → rest_below tree ≡ no_rest → IsTreeTaken tree → (row : R) × (tree ≡ node (Some row) none no_rest)
  leaf_row (node (Some row) children rest) e f t = (row, λ i. node (Some row) (e i) (f i))
  leaf_row (node None none no_rest) e f t = absurd t
  leaf_row (node None none (onward n c)) e f t = absurd cc
  leaf_row (node None (child s c children) rest) e f t = absurd cc
