-- Open nodes as the program keeps them, and what becomes of them where a row comes.
use Rattle.std.proofs.Common.{◌≡◌, ◌+◌, ◌<◌, ◌≤◌, max, ℕ, zero, suc, List, [], ◌∷◌, ◌++◌, append_assoc, map, length, take, drop, get_or, Option, Some, None, Result, Ok, Err, IfOk, refl, sym, ap, subst, ◌∙◌, inl, inr, ⊎_elim, drop_of_length-le, arith}
use Rattle.std.specs.Bool.{◌==◌}
use Rattle.std.specs.Prelude.{Bool, Box, ◌⊎◌, false, is_some, slice_set, true}
use Rattle.std.specs.Option.{option_map}
use Rattle.std.specs.List.{AllByRecursion}
use Rattle.std.specs.Global.{Global}
use Rattle.std.specs.declared.cmp.Ordering.{Ordering}
use Rattle.std.specs.declared.cmp.Ordering.TheVariants.{Less, Equal, Greater}
use Rattle.std.proofs.Math.Seq.{take_all}
use Rattle.std.proofs.lemmas.List.{append-nil, length-append, length-map, length-take, map-append}
use Rattle.cue_lattice.specs.Limits.{step_limit}
use Rattle.cue_lattice.specs.Path.{Step}
use Rattle.cue_row.specs.Steps.{step_of}
use Rattle.cue_table.specs.Depth.{tree_depth}
use Rattle.cue_table.specs.Form.{AreBranches, IsTreeTaken, IsTree}
use Rattle.cue_table.specs.Inner.Child.{Child}
use Rattle.cue_table.specs.Inner.Drafts.{opened_along, staying_count, staying_by, IsDraftWith, IsExtendedBy, LeadsOn}
use Rattle.cue_table.specs.Inner.Form.{StepsRise}
use Rattle.cue_table.specs.Inner.Join.{join_children}
use Rattle.cue_table.specs.Inner.Opened.{close_trees, hang_branch, IsDraft, IsOpen}
use Rattle.cue_table.specs.Inner.View.{below_in, branches, rest_in, tree_of}
use Rattle.cue_table.specs.Slots.{Slot, at, from, slot_cmp, Place, row_behind, rows_of}
use Rattle.cue_table.specs.Tree.{Tree, node, Children, none, child, no_rest, onward, empty, below, rest_below, if_not_empty}
use Rattle.cue_table.specs.declared.node.Node.TheInside.{Inside}
use Rattle.cue_table.specs.declared.node.Onward.{Onward}
use Rattle.cue_table.proofs.Closing.{closed_depth, closed_step, depth_with, hung_behind, hung_depth, hung_rest, hung_taken, leaf_open, open_back, open_front, rows_above, rows_hung, rows_last, slots_above}
use Rattle.cue_table.proofs.Listed.{all_append}
use Rattle.cue_table.proofs.Loosened.{loosened, loose_rise}
use Rattle.cue_table.proofs.Owned.{no_runs, own_only, own_view}
use Rattle.cue_table.proofs.RestBegins.{branches_end}
use Rattle.cue_table.proofs.SlotOrder.{equal_slots}

-- ---- a node as the program keeps it
module _ {R : Type 0} where
  -- the branches of a place in form rise
  pub form_rise : (P : R → Type 0) (tree : Tree R) → IsTree P tree → StepsRise (below tree)
  form_rise P (node row children rest) h = loose_rise P children (loosened P (node row children rest) h).1

module _ {R Q : Type 0} where
  -- a place that tells no rest keeps none
  pub keeps_none : (a : Inside R Q) (tree : Tree R) → tree_of a ≡ tree → rest_below tree ≡ no_rest → rest_in a.rest ≡ no_rest
  keeps_none a tree e f = ap rest_below e ∙ f

  -- one more branch behind the others
  pub pushed : (a : Inside R Q) (tree : Tree R) (all : List (Child R)) (c : Child R) → tree_of a ≡ tree → rest_below tree ≡ no_rest → all ≡ a.children.items ++ c ∷ [] → node a.row (below_in (branches all) a.rest) (rest_in a.rest) ≡ hang_branch tree (at (step_of c.step)) c.node
  pushed a tree all c e f k =
      let alone = keeps_none a tree e f in
      ap (λ cs. node a.row cs (rest_in a.rest)) (own_only (branches all) a.rest alone ∙ ap branches k ∙ branches_end a.children.items c)
      ∙ ap (λ t. hang_branch t (at (step_of c.step)) c.node) (own_view a tree e alone)

  -- a rest behind its branches
  pub put : (a : Inside R Q) (tree : Tree R) (b : Box (Onward R Q) Global) → tree_of a ≡ tree → rest_below tree ≡ no_rest → b.value.runs.items ≡ [] → node a.row (below_in (branches a.children.items) (Some b)) (onward b.value.from b.value.node) ≡ hang_branch tree (from b.value.from) b.value.node
  put a tree b e f k =
      ap (λ cs. node a.row cs (onward b.value.from b.value.node)) (no_runs (branches a.children.items) b k)
      ∙ ap (λ t. hang_branch t (from b.value.from) b.value.node) (own_view a tree e (keeps_none a tree e f))

-- ---- what is at hand in a list
from_on : {X : Type 0} (xs : List X) (i : ℕ) (x : X) → i < length xs → x ≡ get_or xs i x → drop i xs ≡ x ∷ drop (suc i) xs
from_on [] i x l e = absurd (omega (arith, l))
from_on (y ∷ xs) zero x l e = ap (λ z. z ∷ xs) (sym e)
from_on (y ∷ xs) (suc i) x l e = from_on xs i x (omega arith) e

pub at_hand : {X : Type 0} (xs : List X) (i : ℕ) (x : X) → i < length xs → x ≡ get_or xs i x → drop i xs ≡ x ∷ drop (i + 1) xs
at_hand xs i x l e = let next : suc i ≡ i + 1 = omega arith in from_on xs i x l e ∙ ap (λ k. x ∷ drop k xs) next

next_on : {X : Type 0} (xs : List X) (i : ℕ) (x : X) (ys : List X) → x ∷ ys ≡ drop i xs → ys ≡ drop (suc i) xs
next_on [] zero x ys e = absurd cc
next_on [] (suc i) x ys e = absurd cc
next_on (y ∷ xs) zero x ys e = cc
next_on (y ∷ xs) (suc i) x ys e = next_on xs i x ys e

-- what is behind it
pub beyond_it : {X : Type 0} (xs : List X) (i : ℕ) (x : X) (ys : List X) → x ∷ ys ≡ drop i xs → ys ≡ drop (i + 1) xs
beyond_it xs i x ys e = let next : suc i ≡ i + 1 = omega arith in next_on xs i x ys e ∙ ap (λ k. drop k xs) next

module _ {R : Type 0} where
  -- one more node is open
  pub opened_one :
      {S : Type 0} (slots : List S) (i : ℕ) (f : S → Slot) (item other : S) (above more all : List (Tree R × Slot)) (next : Tree R) → i < length slots → item ≡ get_or slots i item → other ≡ item
      → more ≡ above ++ (next, f other) ∷ [] → next ≡ empty → above ++ opened_along empty (map f (drop i slots)) ≡ all → more ++ opened_along empty (map f (drop (i + 1) slots)) ≡ all
  opened_one slots i f item other above more all next l e same pushed new h =
      let way : Place = map f (drop (i + 1) slots) in
      ap (λ xs. xs ++ opened_along empty way) pushed ∙ append_assoc above ((next, f other) ∷ []) (opened_along empty way)
      ∙ (λ k. above ++ (new k, f (same k)) ∷ opened_along empty way) ∙ ap (λ xs. above ++ opened_along empty (map f xs)) (sym (at_hand slots i item l e)) ∙ h

  -- those along a way, of which the first one was there
  pub opened_further : (front mid all : List (Tree R × Slot)) (tree : Tree R) (slot : Slot) (way : Place) → mid ≡ front ++ (tree, slot) ∷ [] → all ≡ mid ++ opened_along empty way → all ≡ front ++ opened_along tree (slot ∷ way)
  opened_further front mid all tree slot way e f = f ∙ ap (λ xs. xs ++ opened_along empty way) e ∙ append_assoc front ((tree, slot) ∷ []) (opened_along empty way)

-- ---- how many nodes stay open
mapped_suc : (o : Option ℕ) (n : ℕ) → option_map suc o ≡ Some (suc n) → o ≡ Some n
mapped_suc None n e = absurd cc
mapped_suc (Some m) n e = grind arith

not_mapped : (o : Option ℕ) → option_map suc o ≡ Some 0 → ⊥
not_mapped None e = cc
not_mapped (Some m) e = grind arith

mapped_on : (i : ℕ) (o : Option ℕ) → option_map (λ n. i + n) (option_map suc o) ≡ option_map (λ n. i + 1 + n) o
mapped_on i None = refl
mapped_on i (Some n) = let same : i + suc n ≡ i + 1 + n = omega arith in ap Some same

module _ {R : Type 0} where
  -- where the slot of a node is that of the place, it stays open
  pub staying_on :
      (above : List (Tree R × Slot)) (i : ℕ) (o : Tree R × Slot) (slot : Slot) (place : Place) (all : Option ℕ) → i < length above → o ≡ get_or above i o → slot_cmp o.1 slot ≡ Equal
      → all ≡ option_map (λ n. i + n) (staying_count (drop i above) (slot ∷ place)) → all ≡ option_map (λ n. i + 1 + n) (staying_count (drop (i + 1) above) place)
  staying_on above i o slot place all l e f h =
      h ∙ ap (λ os. option_map (λ n. i + n) (staying_count os (slot ∷ place))) (at_hand above i o l e)
      ∙ ap (λ c. option_map (λ n. i + n) (staying_by c o.1 (staying_count (drop (i + 1) above) place))) f ∙ mapped_on i (staying_count (drop (i + 1) above) place)

  -- the place leaves the open nodes where it goes past the slot of the next one
  abbrev pub IsNext : List (Tree R × Slot) → Place → Type 0
  IsNext [] place = Unit {0}
  IsNext (o ∷ above) [] = ⊥
  IsNext ((tree, at step) ∷ above) (slot ∷ place) = slot_cmp (at step) slot ≡ Less
  IsNext ((tree, from n) ∷ above) (slot ∷ place) = ⊥

  pub record Stays (above : List (Tree R × Slot)) (place : Place) (n : ℕ) : Type 0 where
    pub slots : place ≡ slots_above (take n above) ++ drop n place
    pub next : IsNext (drop n above) (drop n place)
    pub few : n ≤ length above
    pub fits : n ≤ length place

  stays_by :
      (o : Tree R × Slot) (above : List (Tree R × Slot)) (slot : Slot) (place : Place) (n : ℕ) (c : Ordering) → slot_cmp o.1 slot ≡ c → staying_by c o.1 (staying_count above place) ≡ Some n
      → ((m : ℕ) → staying_count above place ≡ Some m → Stays above place m) → Stays (o ∷ above) (slot ∷ place) n
  stays_by (tree, at step) above slot place zero Less e f more = record { slots = refl; next = e; few = omega arith; fits = omega arith }
  stays_by (tree, at step) above slot place (suc n) Less e f more = absurd (grind arith)
  stays_by (tree, from m) above slot place n Less e f more = absurd cc
  stays_by o above slot place n Greater e f more = absurd cc
  stays_by o above slot place zero Equal e f more = absurd (not_mapped (staying_count above place) f)
  stays_by o above slot place (suc n) Equal e f more =
      let rest = more n (mapped_suc (staying_count above place) n f) in
      let same : slot ≡ o.1 = sym (equal_slots o.1 slot e) in
      record { slots = (λ i. same i ∷ rest.slots i); next = rest.next; few = omega (arith, rest.few); fits = omega (arith, rest.fits) }

  pub stays : (above : List (Tree R × Slot)) (place : Place) (n : ℕ) → staying_count above place ≡ Some n → Stays above place n
  stays [] place zero e = record { slots = refl; next = tt; few = omega arith; fits = omega arith }
  stays [] place (suc n) e = absurd (grind arith)
  stays (o ∷ above) [] n e = absurd cc
  stays (o ∷ above) (slot ∷ place) n e = stays_by o above slot place n (slot_cmp o.1 slot) refl e (stays above place)
  -- where a row stands at the last node, it does not follow there

pub last_empty : {R : Type 0} (above : List (Tree R × Slot)) (last : Tree R) (place : Place) → ((above ≡ []) × (last ≡ empty)) ⊎ IsTreeTaken last → (place ≡ [] → IsTreeTaken last → ⊥) → place ≡ [] → last ≡ empty
last_empty above last place h not e = ⊎_elim (λ none. none.1) (λ t. absurd (not e t)) h

-- ---- the nodes that are opened below one
module _ {R : Type 0} where
  along_slots : (tree : Tree R) (place : Place) → slots_above (opened_along tree place) ≡ place
  along_slots tree [] = refl
  along_slots tree (slot ∷ place) = ap (λ p. slot ∷ p) (along_slots empty place)

  no_rows : (place : Place) → rows_above (opened_along (empty {R = R}) place) ≡ []
  no_rows [] = refl
  no_rows (slot ∷ place) = ap (map (row_behind slot)) (no_rows place)

  -- the rows of the node alone, unless no node is opened
  along_rows : (tree : Tree R) (place : Place) → (place ≡ [] → tree ≡ empty) → rows_above (opened_along tree place) ≡ rows_of tree
  along_rows tree [] h = sym (ap rows_of (h refl))
  along_rows tree (slot ∷ place) h = ap (λ rows. rows_of tree ++ map (row_behind slot) rows) (no_rows place) ∙ append-nil (rows_of tree)

  closed_two : (front back : List (Tree R × Slot)) (last : Tree R) → close_trees (front ++ back) last ≡ close_trees front (close_trees back last)
  closed_two [] back last = refl
  closed_two (o ∷ front) back last = ap (hang_branch o.0 o.1) (closed_two front back last)

  take_drop : (n : ℕ) (above : List (Tree R × Slot)) → take n above ++ drop n above ≡ above
  take_drop zero above = refl
  take_drop (suc n) [] = refl
  take_drop (suc n) (o ∷ above) = ap (λ os. o ∷ os) (take_drop n above)

  -- all that is closed, once only some of the nodes are
  pub closed_some : (n : ℕ) (above : List (Tree R × Slot)) (last : Tree R) → close_trees (take n above) (close_trees (drop n above) last) ≡ close_trees above last
  closed_some n above last = sym (closed_two (take n above) (drop n above) last) ∙ ap (λ os. close_trees os last) (take_drop n above)

  -- a branch is in form where all that it hangs in is
  below_joined : (P : R → Type 0) (children : Children R) (step : Step) (tree : Tree R) → AreBranches P (join_children children (child step tree none)) → IsTree P tree
  below_joined P none step tree h = h.2
  below_joined P (child s t children) step tree h = below_joined P children step tree h.3

  hung_form : (P : R → Type 0) (tree : Tree R) (slot : Slot) (b : Tree R) → IsTree P (hang_branch tree slot b) → IsTree P b
  hung_form P (node here children rest) (at step) b h = below_joined P children step b h.1
  hung_form P (node here children rest) (from n) b h = let r = h.2 in r.3

  pub closed_form : (P : R → Type 0) (above : List (Tree R × Slot)) (last : Tree R) → IsTree P (close_trees above last) → IsTree P last
  closed_form P [] last h = h
  closed_form P (o ∷ above) last h = closed_form P above last (hung_form P o.0 o.1 (close_trees above last) h)

  -- and where one node less is closed
  less_form : (P : R → Type 0) (n : ℕ) (above : List (Tree R × Slot)) (last : Tree R) → IsTree P (close_trees (drop n above) last) → IsTree P (close_trees (drop (suc n) above) last)
  less_form P zero [] last h = h
  less_form P (suc n) [] last h = h
  less_form P zero (o ∷ above) last h = hung_form P o.0 o.1 (close_trees above last) h
  less_form P (suc n) (o ∷ above) last h = less_form P n above last h

  pub one_less_form : (P : R → Type 0) (n : ℕ) (above : List (Tree R × Slot)) (last : Tree R) → IsTree P (close_trees (drop n above) last) → IsTree P (close_trees (drop (n + 1) above) last)
  one_less_form P n above last h = let next : suc n ≡ n + 1 = omega arith in subst (λ k. IsTree P (close_trees (drop k above) last)) next (less_form P n above last h)

  closed_taken : (above : List (Tree R × Slot)) (last : Tree R) → IsTreeTaken last → IsTreeTaken (close_trees above last)
  closed_taken [] last t = t
  closed_taken (o ∷ above) last t = hung_taken o.0 o.1 (close_trees above last)

  module _ (P : R → Type 0) where
    all_empty : (place : Place) → AllByRecursion (IsOpen P) (opened_along empty place)
    all_empty [] = tt
    all_empty (slot ∷ place) = (leaf_open P empty slot (tt, tt, tt) refl refl, all_empty place)

    -- a node in form may go on where the place leaves those that were open below it
    next_open : (back : List (Tree R × Slot)) (last : Tree R) (slot : Slot) (place : Place) → AllByRecursion (IsOpen P) back → (below last ≡ none) × (rest_below last ≡ no_rest) → IsNext back (slot ∷ place) → IsTree P (close_trees back last) → IsOpen P (close_trees back last, slot)
    next_open [] last slot place h leaf next form = leaf_open P last slot form leaf.0 leaf.1
    next_open ((tree, at step) ∷ back) last slot place h leaf next form = record {
      form = form;
      rest = hung_rest tree step (close_trees back last) ∙ h.0.rest;
      behind = hung_behind tree step (close_trees back last) slot next;
    }
    next_open ((tree, from n) ∷ back) last slot place h leaf next form = absurd next

    along_open : (back : List (Tree R × Slot)) (last : Tree R) (place : Place) → AllByRecursion (IsOpen P) back → (below last ≡ none) × (rest_below last ≡ no_rest) → IsNext back place → IsTree P (close_trees back last) → AllByRecursion (IsOpen P) (opened_along (close_trees back last) place)
    along_open back last [] h leaf next form = tt
    along_open back last (slot ∷ place) h leaf next form = (next_open back last slot place h leaf next form, all_empty place)

    -- the place has no slot left only where no node is closed
    at_last : (back : List (Tree R × Slot)) (last : Tree R) (place : Place) → IsNext back place → (place ≡ [] → last ≡ empty) → place ≡ [] → close_trees back last ≡ empty
    at_last [] last place next h e = h e
    at_last (o ∷ back) last [] next h e = absurd next
    at_last (o ∷ back) last (slot ∷ place) next h e = absurd cc

    above_rows : (front : List (Tree R × Slot)) (tree : Tree R) (place : Place) → AllByRecursion (IsOpen P) front → (place ≡ [] → tree ≡ empty) → rows_above (front ++ opened_along tree place) ≡ rows_of (close_trees front tree)
    above_rows [] tree place h e = along_rows tree place e
    above_rows (o ∷ front) tree place h e = ap (λ rows. rows_of o.0 ++ map (row_behind o.1) rows) (above_rows front tree place h.1 e) ∙ sym (rows_hung o.0 o.1 (close_trees front tree) h.0.rest)

    along_depth : (tree last : Tree R) (place : Place) → AllByRecursion (IsOpen P) (opened_along tree place) → tree_depth last ≡ 0 → tree_depth (close_trees (opened_along tree place) last) ≤ max (tree_depth tree) (length place)
    along_depth tree last [] h f = omega (arith, f)
    along_depth tree last (slot ∷ place) h f = omega (arith, hung_depth tree slot (close_trees (opened_along empty place) last) h.0.rest, along_depth empty last place h.1 f)

    -- ---- a row behind all others, at a place at which so many nodes stay open, of which the last is in form
    module _ (above : List (Tree R × Slot)) (last : Tree R) (place : Place) (row : R) (n : ℕ) (d : IsDraft P above last) (s : Stays above place n) (e : drop n place ≡ [] → last ≡ empty) (form : IsTree P (close_trees (drop n above) last)) where
      abbrev nodes : List (Tree R × Slot)
      nodes = take n above ++ opened_along (close_trees (drop n above) last) (drop n place)

      parts : AllByRecursion (IsOpen P) (take n above ++ drop n above)
      parts = subst (AllByRecursion (IsOpen P)) (sym (take_drop n above)) d.opened

      left_open : AllByRecursion (IsOpen P) (take n above)
      left_open = open_front P (take n above) (drop n above) parts

      more_open : AllByRecursion (IsOpen P) (opened_along (close_trees (drop n above) last) (drop n place))
      more_open = along_open (drop n above) last (drop n place) (open_back P (take n above) (drop n above) parts) d.leaf s.next form

      all : AllByRecursion (IsOpen P) nodes
      all = all_append (IsOpen P) (take n above) (opened_along (close_trees (drop n above) last) (drop n place)) left_open more_open

      -- its place is that of the last node
      slots : slots_above nodes ≡ place
      slots = map-append (λ o. o.1) (take n above) (opened_along (close_trees (drop n above) last) (drop n place)) ∙ ap (λ p. slots_above (take n above) ++ p) (along_slots (close_trees (drop n above) last) (drop n place)) ∙ sym s.slots

      -- the others are the rows above it
      rows : rows_above nodes ≡ rows_of (close_trees above last)
      rows = above_rows (take n above) (close_trees (drop n above) last) (drop n place) left_open (at_last (drop n above) last (drop n place) s.next e) ∙ ap rows_of (closed_some n above last)

      pub appended_rows : rows_of (close_trees nodes (node (Some row) none no_rest)) ≡ rows_of (close_trees above last) ++ (place, row) ∷ []
      appended_rows = rows_last P nodes row all ∙ (λ i. rows i ++ (slots i, row) ∷ [])

      pub appended_draft : length place ≤ step_limit → P row → IsDraft P nodes (node (Some row) none no_rest)
      appended_draft few kept = record {
        opened = all;
        form = (kept, tt, tt);
        leaf = (refl, refl);
        taken = inr tt;
        depth = omega (
          arith,
          few,
          d.depth,
          ap length s.slots,
          length-append (slots_above (take n above)) (drop n place),
          length-map (take n above) (λ o. o.1),
          ap tree_depth (closed_some n above last),
          ap tree_depth (closed_two (take n above) (opened_along (close_trees (drop n above) last) (drop n place)) (node (Some row) none no_rest)),
          closed_depth P (take n above) (close_trees (drop n above) last) left_open,
          depth_with P (take n above) (close_trees (drop n above) last) (close_trees (opened_along (close_trees (drop n above) last) (drop n place)) (node (Some row) none no_rest)) left_open,
          along_depth (close_trees (drop n above) last) (node (Some row) none no_rest) (drop n place) more_open refl,
        );
      }

    -- the same of what is seen of it
    pub appended :
        (above : List (Tree R × Slot)) (last : Tree R) (place : Place) (row : R) (n : ℕ) (front all : List (Tree R × Slot)) (tree end : Tree R) (way : Place) → IsDraft P above last → staying_count above place ≡ Some n
        → front ≡ take n above → tree ≡ close_trees (drop n above) last → way ≡ drop n place → all ≡ front ++ opened_along tree way → end ≡ node (Some row) none no_rest
        → IsTree P tree → (drop n place ≡ [] → IsTreeTaken last → ⊥) → length place ≤ step_limit → P row
        → IsDraft P all end × (rows_of (close_trees all end) ≡ rows_of (close_trees above last) ++ (place, row) ∷ [])
    appended above last place row n front all tree end way d stay front_is tree_is way_is all_is end_is form not few kept =
        let s = stays above place n stay in
        let alone = last_empty above last (drop n place) d.taken not in
        let whole = subst (IsTree P) tree_is form in
        let nodes_are : all ≡ nodes above last place row n d s alone whole = all_is ∙ (λ i. front_is i ++ opened_along (tree_is i) (way_is i)) in (
          subst (λ os. IsDraft P os end) (sym nodes_are) (subst (IsDraft P (nodes above last place row n d s alone whole)) (sym end_is) (appended_draft above last place row n d s alone whole few kept)),
          (λ i. rows_of (close_trees (nodes_are i) (end_is i))) ∙ appended_rows above last place row n d s alone whole,
        )

    none_taken : (n : ℕ) (above : List (Tree R × Slot)) → above ≡ [] → above ≡ take n above
    none_taken zero above e = e
    none_taken (suc n) [] e = refl
    none_taken (suc n) (o ∷ above) e = absurd cc

    none_dropped : (n : ℕ) (above : List (Tree R × Slot)) → above ≡ [] → above ≡ drop n above
    none_dropped zero above e = refl
    none_dropped (suc n) [] e = refl
    none_dropped (suc n) (o ∷ above) e = absurd cc

    -- the first row, at the root
    pub appended_first :
        (above left : List (Tree R × Slot)) (last : Tree R) (place : Place) (row : R) (n : ℕ) (end : Tree R) → IsDraft P above last → staying_count above place ≡ Some n → left ≡ take (n + 1) above → drop n place ≡ [] → (drop n place ≡ [] → IsTreeTaken last → ⊥)
        → end ≡ node (Some row) none no_rest → length place ≤ step_limit → P row → IsExtendedBy P above last place row left end true
    appended_first above left last place row n end d stay left_is e not end_is few kept =
        let first : above ≡ [] = ⊎_elim (λ h. h.0) (λ t. absurd (not e t)) d.taken in
        let here : last ≡ close_trees (drop n above) last = ap (λ xs. close_trees xs last) (sym first ∙ none_dropped n above first) in
        let same : left ≡ above = left_is ∙ sym (none_taken (n + 1) above first) in
        appended above last place row n above left last end [] d stay (none_taken n above first) here (sym e) (same ∙ sym (append-nil above)) end_is d.form not few kept

-- ---- nodes that are closed one after the other
take_front : {X : Type 0} (n : ℕ) (xs ys : List X) → n ≤ length xs → take n (xs ++ ys) ≡ take n xs
take_front zero xs ys h = refl
take_front (suc n) [] ys h = absurd (omega (arith, h))
take_front (suc n) (x ∷ xs) ys h = ap (λ zs. x ∷ zs) (take_front n xs ys (omega arith))

drop_front : {X : Type 0} (n : ℕ) (xs ys : List X) → n ≤ length xs → drop n (xs ++ ys) ≡ drop n xs ++ ys
drop_front zero xs ys h = refl
drop_front (suc n) [] ys h = absurd (omega (arith, h))
drop_front (suc n) (x ∷ xs) ys h = drop_front n xs ys (omega arith)

-- so far open nodes were closed, down to a node, of which so many are to be left
pub record IsClosing {R : Type 0} (P : R → Type 0) (n : ℕ) (above : List (Tree R × Slot)) (last : Tree R) (left : List (Tree R × Slot)) (tree : Tree R) : Type 0 where
  pub front : take n left ≡ take n above
  pub same : close_trees (drop n left) tree ≡ close_trees (drop n above) last
  pub opened : AllByRecursion (IsOpen P) left
  pub form : IsTree P tree
  pub taken : (left ≡ []) ⊎ IsTreeTaken tree

module _ {R : Type 0} (P : R → Type 0) (n : ℕ) (above : List (Tree R × Slot)) (last : Tree R) (left : List (Tree R × Slot)) (tree : Tree R) (c : IsClosing P n above last left tree) where
  -- none is to be closed any more
  pub closes_left : length left ≤ n → left ≡ take n above
  closes_left h = sym (take_all n left h) ∙ c.front

  pub closes_same : length left ≤ n → tree ≡ close_trees (drop n above) last
  closes_same h = sym (ap (λ os. close_trees os tree) (drop_of_length-le left h)) ∙ c.same

  module _ (front : List (Tree R × Slot)) (o : Tree R × Slot) (e : left ≡ front ++ o ∷ []) (more : n < length left) where
    opened_two : AllByRecursion (IsOpen P) (front ++ o ∷ [])
    opened_two = subst (AllByRecursion (IsOpen P)) e c.opened

    few : n ≤ length front
    few = omega (arith, more, ap length e, length-append front (o ∷ []))

    same : close_trees (drop n front) (hang_branch o.0 o.1 tree) ≡ close_trees (drop n above) last
    same = sym (closed_step (drop n front) o.0 o.1 tree) ∙ ap (λ os. close_trees os tree) (sym (drop_front n front (o ∷ []) few) ∙ ap (drop n) (sym e)) ∙ c.same

    -- the next one that is closed
    pub closes_open : IsOpen P o
    closes_open = (open_back P front (o ∷ []) opened_two).0

    pub closes_taken : IsTreeTaken tree
    closes_taken = ⊎_elim (λ none. let no : 0 < length left = omega (arith, more) in absurd (omega (arith, no, ap length none))) (λ t. t) c.taken

    pub closes_more : (next : Tree R) → next ≡ hang_branch o.0 o.1 tree → IsTree P next → IsClosing P n above last front next
    closes_more next f form = record {
      front = sym (take_front n front (o ∷ []) few) ∙ ap (take n) (sym e) ∙ c.front;
      same = ap (close_trees (drop n front)) f ∙ same;
      opened = open_front P front (o ∷ []) opened_two;
      form = form;
      taken = inr (subst IsTreeTaken (sym f) (hung_taken o.0 o.1 tree));
    }

    -- where it is in no form, all that is closed is in none
    pub closes_none : (IsTree P (hang_branch o.0 o.1 tree) → ⊥) → IsTree P (close_trees (drop n above) last) → ⊥
    closes_none not h = not (closed_form P (drop n front) (hang_branch o.0 o.1 tree) (subst (IsTree P) (sym same) h))

-- ---- a node that goes on
module _ {X : Type 0} where
  pub one_left : (n : ℕ) (xs : List X) (x : X) → length xs ≤ n + 1 → n < length xs → x ≡ get_or xs n x → drop n xs ≡ x ∷ []
  one_left n [] x l m e = absurd (omega (arith, m))
  one_left zero (y ∷ []) x l m e = ap (λ z. z ∷ []) (sym e)
  one_left zero (y ∷ z ∷ xs) x l m e = absurd (omega (arith, l))
  one_left (suc n) (y ∷ xs) x l m e = one_left n xs x (omega (arith, l)) (omega (arith, m)) e

  pub last_set : (n : ℕ) (xs : List X) (x : X) → length xs ≤ n + 1 → n < length xs → slice_set xs n x ≡ take n xs ++ x ∷ []
  last_set n [] x l m = absurd (omega (arith, m))
  last_set zero (y ∷ []) x l m = refl
  last_set zero (y ∷ z ∷ xs) x l m = absurd (omega (arith, l))
  last_set (suc n) (y ∷ xs) x l m = ap (λ zs. y ∷ zs) (last_set n xs x (omega (arith, l)) (omega (arith, m)))

module _ {R : Type 0} (P : R → Type 0) (n : ℕ) (above : List (Tree R × Slot)) (branch : Tree R) (opened : AllByRecursion (IsOpen P) above) (few : length above ≤ n + 1) where
  -- one that is open
  module _ (o : Tree R × Slot) (l : n < length above) (e : o ≡ get_or above n o) where
    pub led_open : IsOpen P o
    led_open = (subst (AllByRecursion (IsOpen P)) (one_left n above o few l e) (open_back P (take n above) (drop n above) (subst (AllByRecursion (IsOpen P)) (sym (take_drop n above)) opened))).0

    pub led_taken : (above ≡ []) ⊎ IsTreeTaken branch → IsTreeTaken branch
    led_taken = ⊎_elim (λ none. let no : length above ≡ 0 = ap length none in absurd (omega (arith, l, no))) (λ t. t)

    pub led_here : hang_branch o.0 o.1 branch ≡ close_trees (drop n above) branch
    led_here = ap (λ xs. close_trees xs branch) (sym (one_left n above o few l e))

    pub led_turned : (new : List (Tree R × Slot)) (slot : Slot) (tree : Tree R) → new ≡ slice_set above n (tree, slot) → IsDraftWith P (hang_branch o.0 o.1 branch) tree true → LeadsOn P (take n above) (close_trees (drop n above) branch) slot new true
    led_turned new slot tree f g =
        (f ∙ last_set n above (tree, slot) few l ∙ ap (λ t. take n above ++ (t, slot) ∷ []) (g.0 ∙ led_here), subst (IsTree P) led_here g.1)

    pub led_by : {E : Type 0} (result : Result Bool E) (slot : Slot) (tree : Tree R) → IfOk result (IsDraftWith P (hang_branch o.0 o.1 branch) tree) → IfOk result (LeadsOn P (take n above) (close_trees (drop n above) branch) slot (slice_set above n (tree, slot)))
    led_by (Ok true) slot tree h = led_turned (slice_set above n (tree, slot)) slot tree refl h
    led_by (Ok false) slot tree h = subst (λ t. IsTree P t → ⊥) led_here h
    led_by (Err e) slot tree h = tt

  -- or none
  pub led_end : (new : List (Tree R × Slot)) (slot other : Slot) → length above ≤ n → new ≡ above ++ (branch, other) ∷ [] → other ≡ slot → IsTree P branch → LeadsOn P (take n above) (close_trees (drop n above) branch) slot new true
  led_end new slot other l e is form =
      let here : branch ≡ close_trees (drop n above) branch = ap (λ xs. close_trees xs branch) (sym (drop_of_length-le above l)) in
      (e ∙ ap (λ xs. xs ++ (branch, other) ∷ []) (sym (take_all n above l)) ∙ (λ i. take n above ++ (here i, is i) ∷ []), subst (IsTree P) here form)

-- ---- a node that is closed up to another one
module _ {R : Type 0} where
  front_left : (n : ℕ) (above : List (Tree R × Slot)) → take n (take (suc n) above) ≡ take n above
  front_left zero above = refl
  front_left (suc n) [] = refl
  front_left (suc n) (o ∷ above) = ap (λ os. o ∷ os) (front_left n above)

  closed_up : (n : ℕ) (above : List (Tree R × Slot)) (last : Tree R) → close_trees (drop n (take (suc n) above)) (close_trees (drop (suc n) above) last) ≡ close_trees (drop n above) last
  closed_up zero [] last = refl
  closed_up zero (o ∷ above) last = refl
  closed_up (suc n) [] last = refl
  closed_up (suc n) (o ∷ above) last = closed_up n above last

  none_left : (n : ℕ) → let nothing : List (Tree R × Slot) = [] in take n nothing ≡ []
  none_left zero = refl
  none_left (suc n) = refl

  pub left_taken : (n : ℕ) (above left : List (Tree R × Slot)) (last tree : Tree R) → left ≡ take n above → tree ≡ close_trees (drop n above) last → (above ≡ []) ⊎ IsTreeTaken last → (left ≡ []) ⊎ IsTreeTaken tree
  left_taken n above left last tree e f = ⊎_elim (λ none. inl (e ∙ ap (take n) none ∙ none_left n)) (λ t. inr (subst IsTreeTaken (sym f) (closed_taken (drop n above) last t)))

  pub left_opened : (P : R → Type 0) (n : ℕ) (above left : List (Tree R × Slot)) → left ≡ take n above → AllByRecursion (IsOpen P) above → AllByRecursion (IsOpen P) left
  left_opened P n above left e h = subst (AllByRecursion (IsOpen P)) (sym e) (open_front P (take n above) (drop n above) (subst (AllByRecursion (IsOpen P)) (sym (take_drop n above)) h))

  pub left_few : (n : ℕ) (above left : List (Tree R × Slot)) → left ≡ take n above → length left ≤ n
  left_few n above left e = omega (arith, ap length e, length-take n above)

  -- all of it, where it goes on below so many
  pub led_up : (P : R → Type 0) (n : ℕ) (above left new : List (Tree R × Slot)) (last tree : Tree R) (slot : Slot) (b : Bool) → left ≡ take (n + 1) above → tree ≡ close_trees (drop (n + 1) above) last → LeadsOn P (take n left) (close_trees (drop n left) tree) slot new b
      → LeadsOn P (take n above) (close_trees (drop n above) last) slot new b
  led_up P n above left new last tree slot b e f =
      let next : n + 1 ≡ suc n = omega arith in
      let these : left ≡ take (suc n) above = e ∙ ap (λ k. take k above) next in
      let here : tree ≡ close_trees (drop (suc n) above) last = f ∙ ap (λ k. close_trees (drop k above) last) next in
      let front : take n left ≡ take n above = ap (take n) these ∙ front_left n above in
      let all : close_trees (drop n left) tree ≡ close_trees (drop n above) last = (λ i. close_trees (drop n (these i)) (here i)) ∙ closed_up n above last in
      λ h. subst (λ xs. LeadsOn P xs (close_trees (drop n above) last) slot new b) front (subst (λ t. LeadsOn P (take n left) t slot new b) all h)

-- how many nodes stay open, as it is seen
pub stays_seen : {R : Type 0} (above seen : List (Tree R × Slot)) (place way : Place) (o : Option ℕ) → seen ≡ above → way ≡ place → o ≡ staying_count seen way → staying_count above place ≡ o
stays_seen above seen place way o e f h = sym (h ∙ (λ i. staying_count (e i) (f i)))

-- a branch that is seen to be taken
pub taken_found : {X R : Type 0} (f : X → Tree R) (o : Option X) (tree : Tree R) → is_some o ≡ true → option_map f o ≡ if_not_empty tree → IsTreeTaken tree
taken_found f o (node (Some row) children rest) e h = tt
taken_found f o (node None (child step tree children) rest) e h = tt
taken_found f o (node None none (onward n tree)) e h = tt
taken_found f (Some x) (node None none no_rest) e h = absurd cc
taken_found f None (node None none no_rest) e h = absurd cc

pub not_taken : {X R : Type 0} (f : X → Tree R) (o : Option X) (tree : Tree R) → is_some o ≡ false → option_map f o ≡ if_not_empty tree → IsTreeTaken tree → ⊥
not_taken f (Some x) tree e h t = absurd cc
not_taken f None (node (Some row) children rest) e h t = absurd cc
not_taken f None (node None (child step tree children) rest) e h t = absurd cc
not_taken f None (node None none (onward n tree)) e h t = absurd cc
not_taken f None (node None none no_rest) e h t = t

pub no_items : {X : Type 0} (xs : List X) → length xs ≡ 0 → xs ≡ []
no_items [] e = refl
no_items (x ∷ xs) e = absurd (omega (arith, e))

pub no_slots : {X Y : Type 0} (f : X → Y) (xs : List X) (ys : List Y) (is_none : Bool) → map f xs ≡ ys → is_none ≡ (length xs == 0) → is_none ≡ true → ys ≡ []
no_slots f [] ys is_none e h k = sym e
no_slots f (x ∷ xs) ys is_none e h k = absurd (grind (arith, h, k))

pub some_slots : {X Y : Type 0} (f : X → Y) (xs : List X) (ys : List Y) (is_none : Bool) → map f xs ≡ ys → is_none ≡ (length xs == 0) → is_none ≡ false → ys ≡ [] → ⊥
some_slots f [] ys is_none e h k l = absurd cc
some_slots f (x ∷ xs) ys is_none e h k l = absurd cc

-- no row, as at the beginning
pub none_drafted : {R : Type 0} (P : R → Type 0) (above : List (Tree R × Slot)) (last : Tree R) → above ≡ [] → last ≡ empty → IsDraft P above last × (rows_of (close_trees above last) ≡ [])
none_drafted P above last e f =
    let draft : IsDraft P [] empty = record { opened = tt; form = (tt, tt, tt); leaf = (refl, refl); taken = inl (refl, refl); depth = omega arith } in
    (subst (λ xs. IsDraft P xs last) (sym e) (subst (IsDraft P []) (sym f) draft), λ i. rows_of (close_trees (e i) (f i)))
