-- Lists that are met index by index, each stretch that is alike in both once.
use Rattle.std.proofs.Common.{◌≡◌, ◌+◌, ◌-◌, ◌^◌, ◌<◌, ◌≤◌, nat_lt, if◌then◌else◌, ℕ, zero, suc, List, [], ◌∷◌, ◌++◌, Option, Some, None, refl, sym, ap, subst, ◌∙◌, inl, inr, arith}
use Rattle.std.proofs.lemmas.Bool.{cases_lt}
use Rattle.cue_lattice.specs.Path as paths
use Rattle.cue_lattice.specs.Path.{label, index, Path}
use Rattle.cue_table.specs.Inner.Child.{Child}
use Rattle.cue_table.specs.declared.node.Onward.{Onward}
use Rattle.cue_table.specs.declared.node.ElementRun.{ElementRun}
use Rattle.cue_table.specs.Tree.{Tree, node, Children, none, Rest, no_rest, onward, row_of, rest_below, rest_at, fixed_of, find, find_with, step_into}
use Rattle.cue_table.specs.Depth.{tree_depth}
use Rattle.cue_table.specs.Form.{IsTableRow, IsTreeTaken, IsTree, AreBranches, AreWithinDepth, DiffersFromRest, IsRestOf, IsRowKept, IsTable}
use Rattle.cue_table.specs.Meet.{IsMet, IsUnion}
use Rattle.cue_table.specs.Inner.Meet.{IsMerge}
use Rattle.cue_table.specs.Refuses.{RowRefuses}
use Rattle.cue_table.specs.Spans.{alike_elements}
use Rattle.cue_table.specs.Inner.Alike.{AreAlike}
use Rattle.cue_table.specs.Inner.Join.{join_children}
use Rattle.cue_table.specs.Inner.Rests.{AreElements, AreElementsMet, AreMetRests, IsBranch, IsSettled}
use Rattle.cue_table.specs.Inner.Runs.{AreFrom}
use Rattle.cue_table.specs.Inner.Sides.{IsAt}
use Rattle.cue_table.specs.declared.lists.ListSide.{ListSide}
use Rattle.std.specs.Prelude.{Box}
use Rattle.std.specs.Global.{Global}
use Rattle.cue_table.specs.declared.node.Node.TheInside.{Inside}
use Rattle.cue_table.specs.Inner.View.{below_in, branches, more_of, rest_in, run_branches, tree_of}
use Rattle.cue_table.proofs.Aligning.{union_as}
use Rattle.cue_table.proofs.Behind.{within_more}
use Rattle.cue_table.proofs.Branches.{find_rest}
use Rattle.cue_table.proofs.Depth.{depth_with}
use Rattle.cue_table.proofs.Finding.{found_form}
use Rattle.cue_table.proofs.Exact.{none_within, within_last}
use Rattle.cue_table.proofs.Joined.{alike_find, alike_form, alike_within, before_from, find_either, find_later, from_join, from_less, join_form, join_none, no_element, no_label, within_join}
use Rattle.cue_table.proofs.Settling.{alike_none, found_low, found_high, one_more}

module _ {R : Type 0} where
  -- from the index on from which all elements are alike, the rest answers
  pub rest_reached : (P : R → Type 0) (tree : Tree R) (i : ℕ) → IsTree P tree → fixed_of tree ≤ i → step_into tree (index i) ≡ rest_at (rest_below tree)
  rest_reached P (node row children no_rest) i h l = none_within i i children (within_last i children l) (omega arith)
  rest_reached P (node row children (onward n tree)) i h l = find_rest n tree children i l

  -- where nothing is the rest, there is none
  pub no_tree : (rest : Rest R) → rest_at rest ≡ None → rest ≡ no_rest
  no_tree no_rest e = refl
  no_tree (onward n tree) e = cc

  -- how deep a branch is that may be there, its step included
  abbrev pub found_depth : Option (Tree R) → ℕ
  found_depth None = 0
  found_depth (Some tree) = tree_depth tree + 1

  pub step_depth : (tree : Tree R) (step : paths.Step) (found : Option (Tree R)) → found ≡ step_into tree step → found_depth found ≤ tree_depth tree
  step_depth tree step None e = omega arith
  step_depth (node row children rest) step (Some found) e = let less = depth_with rest step children found (sym e) in omega (arith, less)

  pub rest_depth : (tree : Tree R) (found : Option (Tree R)) → found ≡ rest_at (rest_below tree) → found_depth found ≤ tree_depth tree
  rest_depth tree None e = omega arith
  rest_depth (node row children no_rest) (Some found) e = cc
  rest_depth (node row children (onward n tree)) (Some found) e = let same : found ≡ tree = cc in subst (λ t. tree_depth t + 1 ≤ tree_depth (node row children (onward n tree))) (sym same) (omega arith)

  pub step_branch : (P : R → Type 0) (tree : Tree R) (step : paths.Step) (found : Option (Tree R)) → IsTree P tree → found ≡ step_into tree step → IsBranch P found
  step_branch P tree step None h e = tt
  step_branch P tree step (Some found) h e = found_form P step tree found h (sym e)

  pub rest_branch : (P : R → Type 0) (tree : Tree R) (found : Option (Tree R)) → IsTree P tree → found ≡ rest_at (rest_below tree) → IsBranch P found
  rest_branch P tree None h e = tt
  rest_branch P (node row children no_rest) (Some found) h e = cc
  rest_branch P (node row children (onward n tree)) (Some found) h e =
      let same : found ≡ tree = cc in subst (λ t. IsTreeTaken t × IsTree P t) (sym same) (h.2.2, h.2.3)

module _ {R : Type 0} where
  -- what is found is alike further on, where it goes on as it begins
  pub alike_on : (first next end : ℕ) (found : ℕ → Option (Tree R)) → AreAlike first next found → found first ≡ found next → AreAlike next end found → AreAlike first end found
  alike_on first next end found a e b = record {
    behind = omega (arith, a.behind, b.behind);
    same = λ i low high. elim (cases_lt i next) [ inl under ↦ a.same i low under | inr above ↦ b.same i above high ∙ sym e ];
  }

  -- up to an index before that it is alike too
  pub alike_less : (first end to : ℕ) (found : ℕ → Option (Tree R)) → AreAlike first to found → first < end → end ≤ to → AreAlike first end found
  alike_less first end to found a behind less = record { behind = behind; same = λ i low high. a.same i low (omega (arith, high, less)) }

module _ {R S : Type 0} (refuses : R → S → Type 0) where
  -- both places are alike from an index to another one
  pub record IsStretch (left right : Tree R) (fixed at end : ℕ) (found : Option (Tree R)) : Type 0 where
    pub behind : at < end
    pub low : end ≤ fixed
    pub left_same : (i : ℕ) → at ≤ i → i < end → step_into left (index i) ≡ step_into left (index at)
    pub right_same : (i : ℕ) → at ≤ i → i < end → step_into right (index i) ≡ step_into right (index at)
    pub met : AreMetRests refuses (step_into left (index at)) (step_into right (index at)) found

  pub stretch : (left right : Tree R) (fixed first at end : ℕ) (found : Option (Tree R)) → first ≡ at → end ≤ fixed → AreAlike first end (λ i. step_into left (index i)) → AreAlike first end (λ i. step_into right (index i))
      → AreMetRests refuses (step_into left (index first)) (step_into right (index first)) found → IsStretch left right fixed at end found
  stretch left right fixed first at end found e low h k met =
      subst (λ n. IsStretch left right fixed n end found) e (record { behind = h.behind; low = low; left_same = h.same; right_same = k.same; met = met })

  -- the same from side to side
  pub stretch_at :
      {Q : Type 0} (left right : Tree R) (fixed first at end : ℕ) (one other : ListSide R Q) (found : Option (Tree R)) → IsAt left at one → IsAt right at other → first ≡ at → end ≤ fixed
      → AreAlike first end (λ i. step_into one.place.now (index i)) → AreAlike first end (λ i. step_into other.place.now (index i))
      → AreMetRests refuses (step_into one.place.now (index first)) (step_into other.place.now (index first)) found → IsStretch left right fixed at end found
  stretch_at left right fixed first at end one other found a b e low h k met =
      stretch left right fixed first at end found e low (subst (λ (t : Tree R). AreAlike first end (λ i. step_into t (index i))) a.place h) (subst (λ (t : Tree R). AreAlike first end (λ i. step_into t (index i))) b.place k)
      (λ path. union_as refuses _ _ _ _ _ _ path (ap (λ t. step_into t (index first)) (sym a.place)) (ap (λ t. step_into t (index first)) (sym b.place)) refl (met path))

  -- branches that are the same as others are met as these
  pub met_as : (a b x y found : Option (Tree R)) → x ≡ a → y ≡ b → AreMetRests refuses x y found → AreMetRests refuses a b found
  met_as a b x y found e f met path = union_as refuses a b found x y found path (sym e) (sym f) refl (met path)

module _ {R Q S : Type 0} (refuses : R → S → Type 0) (is_value : R → Type 0) where
  -- The elements of both places before an index are met in these runs.
  pub record IsMetUpTo (left right : Tree R) (fixed : ℕ) (runs : List (ElementRun R Q)) (at : ℕ) : Type 0 where
    pub low : at ≤ fixed
    pub elements : AreElements (IsRowKept refuses is_value) at (run_branches runs)
    pub met : (i : ℕ) → i < at → AreMetRests refuses (step_into left (index i)) (step_into right (index i)) (find (index i) (run_branches runs))

  pub sweeps_start : (left right : Tree R) (fixed : ℕ) (runs : List (ElementRun R Q)) → runs ≡ [] → IsMetUpTo left right fixed runs 0
  sweeps_start left right fixed runs e = record {
    low = omega arith;
    elements = subst (λ rs. AreElements (IsRowKept refuses is_value) 0 (run_branches rs)) (sym e) (record { form = tt; within = tt; indexes = tt });
    met = λ i l. absurd (omega (arith, l));
  }

  -- where nothing is known of them
  pub sweeps_gap : (left right : Tree R) (fixed : ℕ) (runs : List (ElementRun R Q)) (at end : ℕ) (found : Option (Tree R)) → IsMetUpTo left right fixed runs at → IsStretch refuses left right fixed at end found → found ≡ None → IsMetUpTo left right fixed runs end
  sweeps_gap left right fixed runs at end found s is e =
      let within = within_more at end (run_branches runs) (omega (arith, is.behind)) s.elements.within in
      record {
        low = is.low;
        elements = record { form = s.elements.form; within = within; indexes = s.elements.indexes };
        met = λ i l. elim (cases_lt i at) [
          | inl under ↦ s.met i under
          | inr above ↦ λ path. union_as refuses _ _ _ _ _ _ path (is.left_same i above l) (is.right_same i above l) (no_element at i (run_branches runs) above s.elements.within ∙ sym e) (is.met path)
        ];
      }

  -- where they are one run more
  pub sweeps_run :
      (left right : Tree R) (fixed : ℕ) (runs after : List (ElementRun R Q)) (r : ElementRun R Q) (at end : ℕ) (found : Option (Tree R)) → IsMetUpTo left right fixed runs at → IsStretch refuses left right fixed at end found
      → IsBranch (IsRowKept refuses is_value) found → found ≡ Some r.node → after ≡ runs ++ r ∷ [] → r.first ≡ at → r.more ≡ end - 1 - at → end ≤ 2 ^ 32 → IsMetUpTo left right fixed after end
  sweeps_run left right fixed runs after r at end found s is h e f first more fits =
      let branch : IsTreeTaken r.node × IsTree (IsRowKept refuses is_value) r.node = subst (IsBranch (IsRowKept refuses is_value)) e h in
      let a = run_branches runs in
      let m = more_of r.first r.more in
      let count : at + m ≡ end - 1 = omega (arith, first, more, fits, is.behind) in
      let b = alike_elements at m r.node none in
      let all : run_branches after ≡ join_children a b = ap run_branches f ∙ one_more runs r ∙ ap (λ n. join_children a (alike_elements n m r.node none)) first in
      let own = alike_form (IsRowKept refuses is_value) at m r.node branch.0 branch.1 in
      let before = before_from at a b s.elements.within own.1 in
      let found_at : (i : ℕ) → find (index i) (run_branches after) ≡ find (index i) (join_children a b) = λ i. ap (find (index i)) all in
      record {
        low = is.low;
        elements = record {
          form = subst (AreBranches (IsRowKept refuses is_value)) (sym all) (join_form (IsRowKept refuses is_value) a b s.elements.form own.0 before);
          within = subst (AreWithinDepth end) (sym all) (within_join end a b (within_more at end a (omega (arith, is.behind)) s.elements.within) (alike_within end at m r.node (omega (arith, count, is.behind))));
          indexes = subst (AreFrom 0) (sym all) (from_join 0 a b s.elements.indexes (from_less 0 at b (omega arith) own.1));
        };
        met = λ i l. elim (cases_lt i at) [
          | inl under ↦ λ path.
              union_as refuses _ _ _ _ _ _ path refl refl
              (found_at i ∙ find_either (index i) a b a none refl (alike_none at m i r.node under) ∙ ap (find (index i)) (join_none a)) (s.met i under path)
          | inr above ↦ λ path.
              union_as refuses _ _ _ _ _ _ path (is.left_same i above l) (is.right_same i above l)
              (found_at i ∙ find_later (index i) a b (no_element at i a above s.elements.within) ∙ alike_find at m i r.node none above (omega (arith, count, l, is.behind)) ∙ sym e) (is.met path)
        ];
      }

  -- the elements and the rest of both places are met
  pub sweeps_end :
      (left right : Tree R) (fixed at : ℕ) (runs : List (ElementRun R Q)) (x y : Option (Tree R)) (tree : Tree R) (made : Onward R Q) → IsMetUpTo left right fixed runs at → fixed ≤ at
      → IsTable refuses is_value left → IsTable refuses is_value right → fixed_of left ≤ fixed → fixed_of right ≤ fixed → x ≡ rest_at (rest_below left) → y ≡ rest_at (rest_below right)
      → AreMetRests refuses x y (Some tree) → IsSettled (IsRowKept refuses is_value) fixed (run_branches runs) tree made → AreElementsMet refuses (IsRowKept refuses is_value) left right made
  sweeps_end left right fixed at runs x y tree made s ends h k low high e f rests is = record {
    form = is.form;
    indexes = is.indexes;
    rest = is.rest;
    met = λ i. elim (cases_lt i fixed) [
      | inl under ↦ λ path. union_as refuses _ _ _ _ _ _ path refl refl (is.same i ∙ found_low fixed i (Some tree) (run_branches runs) under) (s.met i (omega (arith, under, ends)) path)
      | inr above ↦ λ path.
          union_as refuses _ _ _ _ _ _ path (rest_reached (IsRowKept refuses is_value) left i h (omega (arith, above, low)) ∙ sym e) (rest_reached (IsRowKept refuses is_value) right i k (omega (arith, above, high)) ∙ sym f)
          (is.same i ∙ found_high fixed i (Some tree) (run_branches runs) above) (rests path)
    ];
  }

-- ---- fields and elements as one place
module _ {R : Type 0} where
  from_alike : (i m : ℕ) (tree : Tree R) (others : Children R) → AreFrom 0 others → AreFrom 0 (alike_elements i m tree others)
  from_alike i zero tree others h = (omega arith, h)
  from_alike i (suc m) tree others h = (omega arith, from_alike (suc i) m tree others h)

  field_found : (text : List ℕ) (a b : Children R) → AreFrom 0 b → find (label text) (join_children a b) ≡ find (label text) a
  field_found text a b h = find_either (label text) a b a none refl (no_label 0 text b h) ∙ ap (find (label text)) (join_none a)

  differs_behind : (n : ℕ) (tree : Tree R) (a b : Children R) → AreWithinDepth 0 a → DiffersFromRest n tree b → DiffersFromRest n tree (join_children a b)
  differs_behind zero tree a b h d = tt
  differs_behind (suc i) tree a b h d = λ e. d (sym (find_later (index i) a b (no_element 0 i a (omega arith) h)) ∙ e)

  -- a list of fields and of elements behind them is in form
  pub list_form :
      (P : R → Type 0) (row : Option R) (fields elements : Children R) (n : ℕ) (tree : Tree R) → IsTableRow P row → AreBranches P fields → AreWithinDepth 0 fields → AreBranches P elements → AreFrom 0 elements
      → IsRestOf P elements (onward n tree) → IsTree P (node row (join_children fields elements) (onward n tree))
  list_form P row fields elements n tree r f w e i k = (
    r,
    join_form P fields elements f e (before_from 0 fields elements w i),
    (within_join n fields elements (within_more 0 n fields (omega arith) w) k.0, differs_behind n tree fields elements w k.1, k.2, k.3, k.4),
  )

  elements_into : (n : ℕ) (tree : Tree R) (fields elements : Children R) (i : ℕ) → AreWithinDepth 0 fields → find_with (onward n tree) (index i) (join_children fields elements) ≡ find_with (onward n tree) (index i) elements
  elements_into n tree fields elements i w = ap (λ found. if nat_lt i n then found else Some tree) (find_later (index i) fields elements (no_element 0 i fields (omega arith) w))

module _ {R Q : Type 0} where
  runs_from : (rs : List (ElementRun R Q)) → AreFrom 0 (run_branches rs)
  runs_from [] = tt
  runs_from (r ∷ rs) = from_alike r.first (more_of r.first r.more) r.node (run_branches rs) (runs_from rs)

  field_below : (text : List ℕ) (cs : List (Child R)) (rest : Option (Box (Onward R Q) Global)) (row : Option R) → step_into (node row (below_in (branches cs) rest) (rest_in rest)) (label text) ≡ find (label text) (branches cs)
  field_below text cs None row = refl
  field_below text cs (Some b) row = field_found text (branches cs) (run_branches b.value.runs.items) (runs_from b.value.runs.items)

  -- a label finds what it finds among the fields of a place
  pub field_into : (a : Inside R Q) (tree : Tree R) (text : List ℕ) → tree_of a ≡ tree → step_into tree (label text) ≡ find (label text) (branches a.children.items)
  field_into a tree text e = ap (λ t. step_into t (label text)) (sym e) ∙ field_below text a.children.items a.rest a.row

module _ {R Q S : Type 0} (refuses : R → S → Type 0) (P : R → Type 0) where
  -- two lists are met where their rows are, their fields and their elements
  pub list_met :
      (a b : Inside R Q) (s t : Tree R) (own others : List (Child R)) (row : Option R) (fields : Children R) (made : Onward R Q) → tree_of a ≡ s → tree_of b ≡ t
      → ((text : List ℕ) → find (label text) (branches own) ≡ find (label text) (branches a.children.items)) → ((text : List ℕ) → find (label text) (branches others) ≡ find (label text) (branches b.children.items))
      → IsUnion (RowRefuses refuses a.row) (RowRefuses refuses b.row) (RowRefuses refuses row) → IsMerge refuses P (branches own) (branches others) fields → AreWithinDepth 0 fields
      → AreElementsMet refuses P s t made → IsMet refuses s t (node row (join_children fields (run_branches made.runs.items)) (onward made.from made.node))
  list_met a b s t own others row fields made e f x y rows merge within elements [] question =
      subst (λ o. IsUnion (RowRefuses refuses (row_of o)) (RowRefuses refuses (row_of t)) (RowRefuses refuses row)) e
      (subst (λ o. IsUnion (RowRefuses refuses a.row) (RowRefuses refuses (row_of o)) (RowRefuses refuses row)) f rows) question
  list_met a b s t own others row fields made e f x y rows merge within elements (label text ∷ path) question =
      union_as refuses _ _ _ _ _ _ path (field_into a s text e ∙ sym (x text)) (field_into b t text f ∙ sym (y text))
      (field_found text fields (run_branches made.runs.items) elements.indexes) (merge.refused (label text) path) question
  list_met a b s t own others row fields made e f x y rows merge within elements (index i ∷ path) question =
      union_as refuses _ _ _ _ _ _ path refl refl (elements_into made.from made.node fields (run_branches made.runs.items) i within) (elements.met i path) question
