-- Rows behind those of open nodes: no tree has them where their place does not follow, or where what stands before them is in no form.
use Rattle.std.proofs.Common.{◌≡◌, ◌≢◌, ◌⊎◌, inl, inr, ⊎_elim, ℕ, suc, List, [], ◌∷◌, ◌++◌, append_assoc, map, drop, Option, Some, None, refl, sym, ap, subst, ◌∙◌}
use Rattle.std.specs.List.{AllByRecursion}
use Rattle.std.specs.List.Sorted.{IsStrictlySortedBy}
use Rattle.std.specs.Option.{option_map}
use Rattle.std.specs.Ordering.{ordering_then}
use Rattle.std.proofs.lemmas.List.{append-nil}
use Rattle.std.specs.declared.cmp.Ordering.{Ordering}
use Rattle.std.specs.declared.cmp.Ordering.TheVariants.{Less, Equal, Greater}
use Rattle.cue_lattice.specs.OneOf.{OneOf}
use Rattle.cue_lattice.specs.Path.{Step}
use Rattle.cue_table.specs.Form.{IsTreeTaken, IsTree, AreBranches, IsRestOf}
use Rattle.cue_table.specs.Rows.{by_place, kept_rest, kept_at_slot, kept_row}
use Rattle.cue_table.specs.Slots.{Slot, at, from, slot_cmp, Place, place_cmp, row_behind, rows_of, rows_below, rows_onward}
use Rattle.cue_table.specs.Tree.{Tree, node, Children, none, child, Rest, no_rest, onward, empty, rest_below}
use Rattle.cue_table.specs.Inner.Drafts.{staying_count, staying_by}
use Rattle.cue_table.specs.Inner.Loose.{IsLoose}
use Rattle.cue_table.specs.Inner.Opened.{hang_branch, close_trees, IsDraft, IsOpen, IsBeyond}
use Rattle.cue_table.proofs.Closing.{closed_loose, hung_at_form, leaf_row, open_back, open_front, open_more, rows_above, rows_last, slots_above}
use Rattle.cue_table.proofs.Listed.{Is, all_append, kept_found, rest_is, one_right, rows_sorted, rows_listed}
use Rattle.cue_table.proofs.Loosened.{loosened}
use Rattle.cue_table.proofs.SlotOrder.{slots_trans, same_slot, equal_slots}
use Rattle.cue_table.proofs.Under.{closed_early}

-- ---- places

-- what is behind a place beyond a path is beyond it too
beyond_on : (path p q : Place) → IsBeyond path p → place_cmp p q ≡ Less → IsBeyond path q
beyond_on [] p q b l = absurd b
beyond_on (s ∷ path) [] q b l = absurd b
beyond_on (s ∷ path) (x ∷ p) [] b l = absurd cc
beyond_on (s ∷ path) (x ∷ p) (y ∷ q) b l = by (slot_cmp x y) refl (λ k e. beyond_on path p q k e)
  where
    by : (o : Ordering) → slot_cmp x y ≡ o → (IsBeyond path p → place_cmp p q ≡ Less → IsBeyond path q) → IsBeyond (s ∷ path) (y ∷ q)
    by Less e f = inl (⊎_elim (λ k. slots_trans s x y k e) (λ k. subst (λ z. slot_cmp z y ≡ Less) (sym k.0) e) b)
    by Equal e f =
        let same = equal_slots x y e in
        ⊎_elim (λ k. inl (subst (λ z. slot_cmp s z ≡ Less) same k))
        (λ k. inr (k.0 ∙ same, f k.1 (sym (ap (λ o. ordering_then o (place_cmp p q)) e) ∙ l))) b
    by Greater e f = let no : Greater ≡ Less = sym (ap (λ o. ordering_then o (place_cmp p q)) e) ∙ l in absurd cc

-- how places compare, by their first slots
cmp_by : (x y : Slot) (p q : Place) (o : Ordering) → slot_cmp x y ≡ o → place_cmp (x ∷ p) (y ∷ q) ≡ Less → ordering_then o (place_cmp p q) ≡ Less
cmp_by x y p q o e l = sym (ap (λ c. ordering_then c (place_cmp p q)) e) ∙ l

some_suc : (o : Option ℕ) (n : ℕ) → option_map suc o ≡ Some n → (m : ℕ) × (n ≡ suc m) × (o ≡ Some m)
some_suc None n e = absurd cc
some_suc (Some m) n e = (m, cc, refl)

none_suc : (o : Option ℕ) → option_map suc o ≡ None → o ≡ None
none_suc None e = refl
none_suc (Some m) e = absurd cc

no_list : {X : Type 0} (front : List X) (x : X) (back : List X) → front ++ x ∷ back ≡ [] → ⊥
no_list [] x back e = cc
no_list (y ∷ front) x back e = cc

module _ {R : Type 0} where
  -- so many nodes stay open as the place has slots only at the place of the last row
  stays_before : (above : List (Tree R × Slot)) (place : Place) (n : ℕ) → staying_count above place ≡ Some n → drop n place ≡ [] → place_cmp (slots_above above) place ≡ Less → ⊥
  stays_before [] place n e d l = let first : n ≡ 0 = cc in let whole : place ≡ [] = ap (λ k. drop k place) (sym first) ∙ d in let no : place_cmp [] [] ≡ Less = ap (place_cmp []) (sym whole) ∙ l in cc
  stays_before (o ∷ above) [] n e d l = cc
  stays_before (o ∷ above) (slot ∷ place) n e d l = by (slot_cmp o.1 slot) o.1 refl (cmp_by o.1 slot (slots_above above) place (slot_cmp o.1 slot) refl l) e (λ m f g k. stays_before above place m f g k)
    where
      by : (c : Ordering) (s : Slot) → s ≡ o.1 → ordering_then c (place_cmp (slots_above above) place) ≡ Less → staying_by c s (staying_count above place) ≡ Some n → ((m : ℕ) → staying_count above place ≡ Some m → drop m place ≡ [] → place_cmp (slots_above above) place ≡ Less → ⊥) → ⊥
      by Less (at step) is k f later = let first : n ≡ 0 = cc in let no : slot ∷ place ≡ [] = ap (λ m. drop m (slot ∷ place)) (sym first) ∙ d in cc
      by Less (from m) is k f later = cc
      by Equal s is k f later = let more = some_suc (staying_count above place) n f in later more.0 more.2 (ap (λ m. drop m (slot ∷ place)) (sym more.1) ∙ d) k
      by Greater s is k f later = cc

  -- Where some stay open and others do not, the place leaves the way at a step, to a slot behind it.
  pub record IsLeaving (above : List (Tree R × Slot)) (place : Place) (left : List (Tree R × Slot)) : Type 0 where
    pub front : List (Tree R × Slot)
    pub tree : Tree R
    pub step : Step
    pub back : List (Tree R × Slot)
    pub all : above ≡ front ++ (tree, at step) ∷ back
    pub are_left : left ≡ (tree, at step) ∷ back
    pub beyond : IsBeyond (slots_above (front ++ (tree, at step) ∷ [])) place

  pub leaving : (above : List (Tree R × Slot)) (place : Place) (n : ℕ) → staying_count above place ≡ Some n → (drop n above ≡ []) ⊎ IsLeaving above place (drop n above)
  leaving [] place n e = let first : n ≡ 0 = cc in let nothing : List (Tree R × Slot) = [] in inl (ap (λ k. drop k nothing) first)
  leaving (o ∷ above) [] n e = absurd cc
  leaving (o ∷ above) (slot ∷ place) n e = by (slot_cmp o.1 slot) o.1 refl refl e (λ m f. leaving above place m f)
    where
      by : (c : Ordering) (s : Slot) → o.1 ≡ s → slot_cmp o.1 slot ≡ c → staying_by c s (staying_count above place) ≡ Some n → ((m : ℕ) → staying_count above place ≡ Some m → (drop m above ≡ []) ⊎ IsLeaving above place (drop m above))
          → (drop n (o ∷ above) ≡ []) ⊎ IsLeaving (o ∷ above) (slot ∷ place) (drop n (o ∷ above))
      by Less (at step) is c f later =
          let first : 0 ≡ n = cc in
          let here : o ≡ (o.0, at step) = λ i. (o.0, is i) in
          inr (record {
            front = [];
            tree = o.0;
            step = step;
            back = above;
            all = ap (λ x. x ∷ above) here;
            are_left = ap (λ k. drop k (o ∷ above)) (sym first) ∙ ap (λ x. x ∷ above) here;
            beyond = inl (subst (λ s. slot_cmp s slot ≡ Less) is c);
          })
      by Less (from m) is c f later = absurd cc
      by Equal s is c f later =
          let more = some_suc (staying_count above place) n f in
          let below : drop n (o ∷ above) ≡ drop more.0 above = ap (λ k. drop k (o ∷ above)) more.1 in
          ⊎_elim (λ none. inl (below ∙ none))
          (λ (l : IsLeaving above place (drop more.0 above)). inr (record {
            front = o ∷ l.front;
            tree = l.tree;
            step = l.step;
            back = l.back;
            all = ap (λ xs. o ∷ xs) l.all;
            are_left = below ∙ l.are_left;
            beyond = inr (equal_slots o.1 slot c, l.beyond);
          }))
          (later more.0 more.2)
      by Greater s is c f later = absurd cc

  -- ---- the rows of a tree in form

  one_rest : (m n : ℕ) (rest : Rest R) (a b : Tree R) → kept_rest m rest ≡ Some a → kept_rest n rest ≡ Some b → m ≡ n
  one_rest m n no_rest a b e f = cc
  one_rest m n (onward k tree) a b e f = (rest_is m k tree a e).0 ∙ sym (rest_is n k tree b f).0

  -- a place that keeps a row behind another one follows the way to that one
  follows : (above : List (Tree R × Slot)) (place : Place) (tree : Tree R) (r s : R) → place_cmp (slots_above above) place ≡ Less → kept_row tree (slots_above above) ≡ Some r → kept_row tree place ≡ Some s → staying_count above place ≡ None → ⊥
  follows [] place tree r s l e f g = cc
  follows (o ∷ above) [] tree r s l e f g = cc
  follows (o ∷ above) (slot ∷ place) tree r s l e f g =
      let one = kept_found (kept_at_slot tree o.1) (slots_above above) r e in
      let two = kept_found (kept_at_slot tree slot) place s f in
      by one two (slot_cmp o.1 slot) o.1 slot refl refl refl (cmp_by o.1 slot (slots_above above) place (slot_cmp o.1 slot) refl l) g (λ t f g k h. follows above place t r s k f g h)
    where
      by :
          (one : (t : Tree R) × (kept_at_slot tree o.1 ≡ Some t) × (kept_row t (slots_above above) ≡ Some r)) (two : (t : Tree R) × (kept_at_slot tree slot ≡ Some t) × (kept_row t place ≡ Some s)) (c : Ordering) (x y : Slot) → o.1 ≡ x → slot ≡ y
          → slot_cmp o.1 slot ≡ c → ordering_then c (place_cmp (slots_above above) place) ≡ Less → staying_by c x (staying_count above place) ≡ None
          → ((t : Tree R) → kept_row t (slots_above above) ≡ Some r → kept_row t place ≡ Some s → place_cmp (slots_above above) place ≡ Less → staying_count above place ≡ None → ⊥) → ⊥
      by one two Less (at step) y p q c k g later = cc
      by one two Less (from m) (at step) p q c k g later = let there : slot_cmp (from m) (at step) ≡ Less = (λ i. slot_cmp (sym p i) (sym q i)) ∙ c in cc
      by one two Less (from m) (from n) p q c k g later =
          let same : m ≡ n = one_rest m n (rest_below tree) one.0 two.0 (ap (kept_at_slot tree) (sym p) ∙ one.1) (ap (kept_at_slot tree) (sym q) ∙ two.1) in
          let slots : o.1 ≡ slot = p ∙ ap from same ∙ sym q in
          let no : Equal ≡ Less = sym (same_slot slot) ∙ sym (ap (λ z. slot_cmp z slot) slots) ∙ c in
          cc
      by one two Equal x y p q c k g later =
          let found : Some one.0 ≡ Some two.0 = sym one.1 ∙ ap (kept_at_slot tree) (equal_slots o.1 slot c) ∙ two.1 in
          let same : one.0 ≡ two.0 = cc in
          later two.0 (subst (λ t. kept_row t (slots_above above) ≡ Some r) same one.2) two.2 k (none_suc (staying_count above place) g)
      by one two Greater x y p q c k g later = cc

  sorted_later : (xs : List (Place × R)) (x : Place × R) (ys : List (Place × R)) → IsStrictlySortedBy by_place (xs ++ x ∷ ys) → AllByRecursion (λ later. place_cmp x.0 later.0 ≡ Less) ys
  unfolding IsStrictlySortedBy
  sorted_later [] x ys h = h.0
  sorted_later (y ∷ xs) x ys h = sorted_later xs x ys h.1

  all_behind : (Q : Place × R → Type 0) (slot : Slot) (rows : List (Place × R)) → ((row : Place × R) → Q row → Q (row_behind slot row)) → AllByRecursion Q rows → AllByRecursion Q (map (row_behind slot) rows)
  all_behind Q slot [] f h = tt
  all_behind Q slot (row ∷ rows) f h = (f row h.0, all_behind Q slot rows f h.1)

  middle_of : (Q : Place × R → Type 0) (xs : List (Place × R)) (x : Place × R) (ys : List (Place × R)) → AllByRecursion Q (xs ++ x ∷ ys) → Q x
  middle_of Q [] x ys h = h.0
  middle_of Q (y ∷ xs) x ys h = middle_of Q xs x ys h.1

  beyond_all : (path place : Place) (rows : List (Place × R)) → IsBeyond path place → AllByRecursion (λ (r : Place × R). place_cmp place r.0 ≡ Less) rows → AllByRecursion (λ (r : Place × R). IsBeyond path r.0) rows
  beyond_all path place [] b h = tt
  beyond_all path place (row ∷ rows) b h = (beyond_on path place row.0 b h.0, beyond_all path place rows b h.1)

  closed_both : (front back : List (Tree R × Slot)) (last : Tree R) → close_trees (front ++ back) last ≡ close_trees front (close_trees back last)
  closed_both [] back last = refl
  closed_both (o ∷ front) back last = ap (hang_branch o.0 o.1) (closed_both front back last)

  module _ (P : R → Type 0) where
    mutual
      -- what holds of each row of a tree holds of each row of the list
      rows_hold : (tree : Tree R) → IsTree P tree → AllByRecursion (λ (r : Place × R). P r.1) (rows_of tree)
      rows_hold (node None children rest) h = all_append (λ (r : Place × R). P r.1) (rows_below children) (rows_onward rest) (below_hold children h.1) (onward_hold children rest h.2)
      rows_hold (node (Some row) children rest) h = (h.0, all_append (λ (r : Place × R). P r.1) (rows_below children) (rows_onward rest) (below_hold children h.1) (onward_hold children rest h.2))

      below_hold : (children : Children R) → AreBranches P children → AllByRecursion (λ (r : Place × R). P r.1) (rows_below children)
      below_hold none h = tt
      below_hold (child step tree children) h =
          all_append (λ (r : Place × R). P r.1) (map (row_behind (at step)) (rows_of tree)) (rows_below children) (all_behind (λ (r : Place × R). P r.1) (at step) (rows_of tree) (λ row k. k) (rows_hold tree h.2)) (below_hold children h.3)

      onward_hold : (children : Children R) (rest : Rest R) → IsRestOf P children rest → AllByRecursion (λ (r : Place × R). P r.1) (rows_onward rest)
      onward_hold children no_rest h = tt
      onward_hold children (onward n tree) h = all_behind (λ (r : Place × R). P r.1) (from n) (rows_of tree) (λ row k. k) (rows_hold tree h.3)

    -- ---- lists that begin the rows of no tree

    abbrev pub AreNone : List (Place × R) → Type 0
    AreNone rows = (tree : Tree R) (more : List (Place × R)) → IsTree P tree → rows_of tree ≢ rows ++ more

    -- those with a row of which P does not hold
    pub free_row : (rows : List (Place × R)) (place : Place) (row : R) → (P row → ⊥) → AreNone (rows ++ (place, row) ∷ [])
    free_row rows place row not tree more k e =
        let listed : rows_of tree ≡ rows ++ (place, row) ∷ more = e ∙ append_assoc rows ((place, row) ∷ []) more in
        not (middle_of (λ (r : Place × R). P r.1) rows (place, row) more (subst (AllByRecursion (λ (r : Place × R). P r.1)) listed (rows_hold tree k)))

    -- those where a row stands beyond what is in no form
    early_none : (front : List (Tree R × Slot)) (last : Tree R) (place : Place) (row : R) → AllByRecursion (IsOpen P) front → IsLoose P last → (IsTree P last → ⊥) → IsBeyond (slots_above front) place → AreNone (rows_of (close_trees front last) ++ (place, row) ∷ [])
    early_none front last place row h l not b tree more k e =
        let rows : List (Place × R) = rows_of (close_trees front last) in
        let listed : rows_of tree ≡ rows ++ (place, row) ∷ more = e ∙ append_assoc rows ((place, row) ∷ []) more in
        let later = sorted_later rows (place, row) more (subst (IsStrictlySortedBy by_place) listed (rows_sorted P tree (loosened P tree k))) in
        not (closed_early P front last tree ((place, row) ∷ more) h l k (b, beyond_all (slots_above front) place more b later) listed)

    -- those behind the last row, at a place that is not
    after_last :
        (above : List (Tree R × Slot)) (last : Tree R) (place : Place) (row : R) → IsDraft P above last → IsTreeTaken last
        → ((here : R) (tree : Tree R) → place_cmp (slots_above above) place ≡ Less → kept_row tree (slots_above above) ≡ Some here → kept_row tree place ≡ Some row → ⊥) → AreNone (rows_of (close_trees above last) ++ (place, row) ∷ [])
    after_last above last place row d t not tree more k e =
        let leaf = leaf_row last d.leaf.0 d.leaf.1 t in
        let here : R = leaf.0 in
        let two : List (Place × R) = (slots_above above, here) ∷ (place, row) ∷ more in
        let listed : rows_of tree ≡ rows_above above ++ two =
        e ∙ append_assoc (rows_of (close_trees above last)) ((place, row) ∷ []) more
        ∙ ap (λ rows. rows ++ (place, row) ∷ more) (ap (λ x. rows_of (close_trees above x)) leaf.1 ∙ rows_last P above here d.opened)
        ∙ append_assoc (rows_above above) ((slots_above above, here) ∷ []) ((place, row) ∷ more) in
        let loose = loosened P tree k in
        let later = sorted_later (rows_above above) (slots_above above, here) ((place, row) ∷ more) (subst (IsStrictlySortedBy by_place) listed (rows_sorted P tree loose)) in
        let one : (x : Place) (r : R) → OneOf (Is x r) two → kept_row tree x ≡ Some r = λ x r o. (rows_listed P tree loose x r).0 (subst (OneOf (Is x r)) (sym listed) (one_right (Is x r) (rows_above above) two o)) in
        not here tree later.0 (one (slots_above above) here (inl refl)) (one place row (inr (inl refl)))

    -- at a place before the last row, or in a second rest
    pub stays_none : (above : List (Tree R × Slot)) (last : Tree R) (place : Place) (row : R) → IsDraft P above last → staying_count above place ≡ None → AreNone (rows_of (close_trees above last) ++ (place, row) ∷ [])
    stays_none above last place row d e =
        ⊎_elim (λ (first : (above ≡ []) × (last ≡ empty)). let no : Some 0 ≡ None = ap (λ xs. staying_count xs place) (sym first.0) ∙ e in absurd cc)
        (λ (t : IsTreeTaken last). after_last above last place row d t (λ here tree l k f. follows above place tree here row l k f e))
        d.taken

    -- at that of the last row
    pub stays_at_last : (above : List (Tree R × Slot)) (last : Tree R) (place : Place) (row : R) (n : ℕ) → IsDraft P above last → staying_count above place ≡ Some n → drop n place ≡ [] → IsTreeTaken last → AreNone (rows_of (close_trees above last) ++ (place, row) ∷ [])
    stays_at_last above last place row n d e f t = after_last above last place row d t (λ here tree l k g. stays_before above place n e f l)

    -- where what does not stay open is in no form
    pub unclosed : (above : List (Tree R × Slot)) (last : Tree R) (place : Place) (row : R) (n : ℕ) → IsDraft P above last → staying_count above place ≡ Some n → (IsTree P (close_trees (drop n above) last) → ⊥) → AreNone (rows_of (close_trees above last) ++ (place, row) ∷ [])
    unclosed above last place row n d e not =
        ⊎_elim (λ none. absurd (not (subst (λ xs. IsTree P (close_trees xs last)) (sym none) d.form)))
        (λ l. ⊎_elim (λ first. absurd (not (subst (λ xs. IsTree P (close_trees xs last)) (none_left first.0) d.form))) (left l) d.taken)
        (leaving above place n e)
      where
        none_left : above ≡ [] → [] ≡ drop n above
        none_left first = sym (⊎_elim (λ none. none) (λ (l : IsLeaving above place (drop n above)). absurd (no_list l.front (l.tree, at l.step) l.back (sym l.all ∙ first))) (leaving above place n e))

        left : IsLeaving above place (drop n above) → IsTreeTaken last → AreNone (rows_of (close_trees above last) ++ (place, row) ∷ [])
        left l t =
            let all : AllByRecursion (IsOpen P) (l.front ++ (l.tree, at l.step) ∷ l.back) = subst (AllByRecursion (IsOpen P)) l.all d.opened in
            let back = open_back P l.front ((l.tree, at l.step) ∷ l.back) all in
            let loose = closed_loose P l.back last back.1 t (loosened P last d.form) in
            let upper : List (Tree R × Slot) = l.front ++ (l.tree, at l.step) ∷ [] in
            let same : close_trees above last ≡ close_trees upper (close_trees l.back last) =
            ap (λ xs. close_trees xs last) (l.all ∙ sym (append_assoc l.front ((l.tree, at l.step) ∷ []) l.back)) ∙ closed_both upper l.back last in
            subst (λ x. AreNone (rows_of x ++ (place, row) ∷ [])) (sym same)
            (early_none upper (close_trees l.back last) place row (open_more P l.front l.tree (at l.step) (open_front P l.front ((l.tree, at l.step) ∷ l.back) all) back.0) loose.1
            (λ form. not (subst (λ xs. IsTree P (close_trees xs last)) (sym l.are_left) (hung_at_form P l.tree l.step (close_trees l.back last) back.0 loose.0 form))) l.beyond)

    -- no tree has just the rows, where all that is closed is in no form
    pub unfinished : (above : List (Tree R × Slot)) (last : Tree R) → IsDraft P above last → (IsTree P (close_trees above last) → ⊥) → (table : Tree R) → IsTree P table → rows_of table ≡ rows_of (close_trees above last) → ⊥
    unfinished above last d not table k e =
        ⊎_elim (λ first. not (subst (λ xs. IsTree P (close_trees xs last)) (sym first.0) d.form))
        (λ t. not (closed_early P [] (close_trees above last) table [] tt (closed_loose P above last d.opened t (loosened P last d.form)).1 k tt (e ∙ sym (append-nil (rows_of (close_trees above last))))))
        d.taken
