-- What is left on a way along branches.
use Rattle.std.proofs.Common.{◌≡◌, ◌↔◌, ◌+◌, ◌-◌, ◌<◌, ◌≤◌, if◌then◌else◌, ℕ, zero, suc, List, [], ◌∷◌, ◌++◌, drop, Bool, true, false, min, Option, Some, None, refl, sym, ap, subst, ◌∙◌, inl, inr, arith}
use Rattle.std.specs.Global.{Global}
use Rattle.std.specs.Option.{option_map, option_or, is_some}
use Rattle.std.specs.Prelude.{Box, IfNone, IfSome, IsTrue, not}
use Rattle.std.specs.List.Sorted.{IsPartitionPoint}
use Rattle.std.proofs.lemmas.Bool.{cases_lt, lt-ltb, le-ltb}
use Rattle.cue_lattice.specs.Path.{Step, label, index}
use Rattle.cue_table.specs.declared.cursor.BranchCursor.{BranchCursor}
use Rattle.cue_table.specs.Inner.Child.{Child}
use Rattle.cue_table.specs.declared.node.ElementRun.{ElementRun}
use Rattle.cue_table.specs.declared.node.Node.TheInside.{Inside}
use Rattle.cue_table.specs.declared.node.Onward.{Onward}
use Rattle.cue_table.specs.Size.{tree_size, children_size}
use Rattle.cue_table.specs.Spans.{Span, field, elements, first_of_span, more_in, alike_elements, branches_of_span, branches_of_spans}
use Rattle.cue_table.specs.Tree.{Tree, node, Children, none, child, below, find, step_into, labels_of, items_of}
use Rattle.cue_table.specs.Form.{IsStepBelowAll, StartsAtIndex, IsTreeTaken, IsTree, AreBranches}
use Rattle.cue_table.specs.Inner.Form.{StepsRise}
use Rattle.cue_table.specs.Inner.Cursors.{span_behind, begun_spans, spans_left}
use Rattle.cue_table.specs.Inner.Join.{join_children}
use Rattle.cue_table.specs.Inner.View.{below_in, branches, more_of, rest_in, run_branches, run_spans, runs_in, spans_in, tree_of}
use Rattle.cue_table.proofs.Branches.{find_fixed}
use Rattle.cue_table.proofs.Finding.{branches_rise}
use Rattle.cue_table.proofs.Joined.{alike_join, find_earlier, find_later, join_none, join_parts}
use Rattle.cue_table.proofs.Nodes.{is_label, items_from, starts_from}
use Rattle.cue_table.proofs.Spanned.{spread_in}

module _ {R : Type 0} where
  spanned_join : (span : Span) (tree : Tree R) (a b : Children R) → join_children (branches_of_span span tree a) b ≡ branches_of_span span tree (join_children a b)
  spanned_join (field text) tree a b = refl
  spanned_join (elements i more) tree a b = alike_join i more tree a b

  spread_join : (spans others : List (Span × Tree R)) → branches_of_spans (spans ++ others) ≡ join_children (branches_of_spans spans) (branches_of_spans others)
  spread_join [] others = refl
  spread_join (item ∷ spans) others =
      ap (branches_of_span item.0 item.1) (spread_join spans others) ∙ sym (spanned_join item.0 item.1 (branches_of_spans spans) (branches_of_spans others))

  spread_runs : {Q : Type 0} (rs : List (ElementRun R Q)) → branches_of_spans (run_spans rs) ≡ run_branches rs
  spread_runs [] = refl
  spread_runs (r ∷ rs) = ap (alike_elements r.first (more_of r.first r.more) r.node) (spread_runs rs)

  -- the branches of a whole place
  pub spread_place : {Q : Type 0} (cs : List (Child R)) (rs : List (ElementRun R Q)) → branches_of_spans (spans_in cs ++ run_spans rs) ≡ join_children (branches cs) (run_branches rs)
  spread_place cs rs = spread_join (spans_in cs) (run_spans rs) ∙ ap (λ a. join_children a (branches_of_spans (run_spans rs))) (spread_in cs) ∙ ap (join_children (branches cs)) (spread_runs rs)

  -- ---- the first branch of a span and so many others, and what is behind them
  abbrev begun : Step → ℕ → Tree R → Children R → Children R
  begun (label text) passed tree others = child (label text) tree others
  begun (index i) passed tree others = alike_elements i passed tree others

  alike_cut : (i p q : ℕ) (tree : Tree R) (others : Children R) → alike_elements i (p + suc q) tree others ≡ alike_elements i p tree (alike_elements (i + p + 1) q tree others)
  alike_cut i zero q tree others =
      let at : suc i ≡ i + zero + 1 = omega arith in
      let n : zero + suc q ≡ suc q = omega arith in
      ap (λ m. alike_elements i m tree others) n ∙ ap (λ j. child (index i) tree (alike_elements j q tree others)) at
  alike_cut i (suc p) q tree others =
      let at : suc i + p + 1 ≡ i + suc p + 1 = omega arith in
      let n : suc p + suc q ≡ suc (p + suc q) = omega arith in
      ap (λ m. alike_elements i m tree others) n ∙ ap (child (index i) tree) (alike_cut (suc i) p q tree others)
      ∙ ap (λ j. child (index i) tree (alike_elements (suc i) p tree (alike_elements j q tree others))) at

  span_cut : (passed : ℕ) (span : Span) (tree : Tree R) (left : List (Span × Tree R)) → passed ≤ more_in span
      → branches_of_span span tree (branches_of_spans left) ≡ begun (first_of_span span) passed tree (branches_of_spans (span_behind passed span tree ++ left))
  span_cut passed (field text) tree left l = refl
  span_cut passed (elements i more) tree left l = elim (cases_lt passed more) [
    | inl low ↦
        let some = ap (λ b. branches_of_spans ((if b then (elements (i + passed + 1) (more - passed - 1), tree) ∷ [] else []) ++ left)) (lt-ltb passed more low) in
        let n : more ≡ passed + suc (more - passed - 1) = omega (arith, low) in
        ap (λ m. alike_elements i m tree (branches_of_spans left)) n ∙ alike_cut i passed (more - passed - 1) tree (branches_of_spans left) ∙ sym (ap (alike_elements i passed tree) some)
    | inr high ↦
        let nothing = ap (λ b. branches_of_spans ((if b then (elements (i + passed + 1) (more - passed - 1), tree) ∷ [] else []) ++ left)) (le-ltb passed more high) in
        let n : more ≡ passed = omega (arith, l, high) in
        ap (λ m. alike_elements i m tree (branches_of_spans left)) n ∙ sym (ap (alike_elements i passed tree) nothing)
  ]

  -- the first branch comes first
  span_first : (span : Span) (tree : Tree R) (left : List (Span × Tree R)) → branches_of_spans ((span, tree) ∷ left) ≡ child (first_of_span span) tree (branches_of_spans (span_behind 0 span tree ++ left))
  span_first (field text) tree left = span_cut 0 (field text) tree left (omega arith)
  span_first (elements i more) tree left = span_cut 0 (elements i more) tree left (omega arith)

  alike_same : (i p : ℕ) (tree : Tree R) (a b : Children R) → alike_elements i p tree a ≡ alike_elements i p tree b → a ≡ b
  alike_same i zero tree a b e = cc
  alike_same i (suc p) tree a b e = let inner : alike_elements (suc i) p tree a ≡ alike_elements (suc i) p tree b = cc in alike_same (suc i) p tree a b inner

  begun_same : (step : Step) (p : ℕ) (tree : Tree R) (a b : Children R) → begun step p tree a ≡ begun step p tree b → a ≡ b
  begun_same (label text) p tree a b e = cc
  begun_same (index i) p tree a b e = alike_same i p tree a b e

  -- Two ways that begin alike: what is left behind the branches that both have decides whether they are the same.
  pub same_behind : (passed : ℕ) (s o : Span) (t u : Tree R) (all left rest others right rests : List (Span × Tree R))
      → all ≡ (s, t) ∷ left → rest ≡ span_behind passed s t ++ left → others ≡ (o, u) ∷ right → rests ≡ span_behind passed o u ++ right
      → passed ≡ min (more_in s) (more_in o) → first_of_span s ≡ first_of_span o → t ≡ u → (branches_of_spans all ≡ branches_of_spans others) ↔ (branches_of_spans rest ≡ branches_of_spans rests)
  same_behind passed s o t u all left rest others right rests e f g h p steps trees =
      let one : branches_of_spans all ≡ begun (first_of_span s) passed t (branches_of_spans rest) = ap branches_of_spans e ∙ span_cut passed s t left (omega (arith, p)) ∙ ap (λ spans. begun (first_of_span s) passed t (branches_of_spans spans)) (sym f) in
      let two : branches_of_spans others ≡ begun (first_of_span o) passed u (branches_of_spans rests) = ap branches_of_spans g ∙ span_cut passed o u right (omega (arith, p)) ∙ ap (λ spans. begun (first_of_span o) passed u (branches_of_spans spans)) (sym h) in
      let like : begun (first_of_span o) passed u (branches_of_spans rests) ≡ begun (first_of_span s) passed t (branches_of_spans rests) = λ i. begun (sym steps i) passed (sym trees i) (branches_of_spans rests) in (
        λ k. begun_same (first_of_span s) passed t (branches_of_spans rest) (branches_of_spans rests) (sym one ∙ k ∙ two ∙ like),
        λ k. one ∙ ap (begun (first_of_span s) passed t) k ∙ sym like ∙ sym two,
      )

  -- ways that are the same begin alike
  pub same_first : (s o : Span) (t u : Tree R) (all left others right : List (Span × Tree R)) → all ≡ (s, t) ∷ left → others ≡ (o, u) ∷ right
      → branches_of_spans all ≡ branches_of_spans others → (first_of_span s ≡ first_of_span o) × (t ≡ u)
  same_first s o t u all left others right e f h =
      let both : child (first_of_span s) t (branches_of_spans (span_behind 0 s t ++ left)) ≡ child (first_of_span o) u (branches_of_spans (span_behind 0 o u ++ right)) =
      sym (span_first s t left) ∙ ap branches_of_spans (sym e) ∙ h ∙ ap branches_of_spans f ∙ span_first o u right in
      let step : first_of_span s ≡ first_of_span o = cc in
      let tree : t ≡ u = cc in
      (step, tree)

  -- a way with branches is no way without
  pub not_none : (s : Span) (t : Tree R) (all left : List (Span × Tree R)) → all ≡ (s, t) ∷ left → branches_of_spans all ≡ none → ⊥
  not_none s t all left e h =
      let no : child (first_of_span s) t (branches_of_spans (span_behind 0 s t ++ left)) ≡ none = sym (span_first s t left) ∙ ap branches_of_spans (sym e) ∙ h in
      cc

  -- ---- the form of what is left
  alike_form : (P : R → Type 0) (i more : ℕ) (tree : Tree R) (others : Children R) → AreBranches P (alike_elements i more tree others) → IsTree P tree × AreBranches P others
  alike_form P i zero tree others h = (h.2, h.3)
  alike_form P i (suc more) tree others h = (h.2, (alike_form P (suc i) more tree others h.3).1)

  span_form : (P : R → Type 0) (span : Span) (tree : Tree R) (others : Children R) → AreBranches P (branches_of_span span tree others) → IsTree P tree × AreBranches P others
  span_form P (field text) tree others h = (h.2, h.3)
  span_form P (elements i more) tree others h = alike_form P i more tree others h

  -- what is found in two lists of branches as one
  find_or : (s : Step) (a b : Children R) → find s (join_children a b) ≡ option_or (find s a) (find s b)
  find_or s a b = by (find s a) refl
    where
      by : (found : Option (Tree R)) → find s a ≡ found → find s (join_children a b) ≡ option_or (find s a) (find s b)
      by None e = find_later s a b e ∙ sym (ap (λ o. option_or o (find s b)) e)
      by (Some t) e = find_earlier s a b t e ∙ sym (ap (λ o. option_or o (find s b)) e)

  -- no label is among elements
  alike_label : (text : List ℕ) (i more : ℕ) (tree : Tree R) (others : Children R) → find (label text) (alike_elements i more tree others) ≡ find (label text) others
  alike_label text i zero tree others = refl
  alike_label text i (suc more) tree others = alike_label text (suc i) more tree others

pub map_or : {A B : Type 0} (f : A → B) (x y : Option A) → option_map f (option_or x y) ≡ option_or (option_map f x) (option_map f y)
map_or f None y = refl
map_or f (Some x) y = refl

module _ {R : Type 0} where
  runs_label : {Q : Type 0} (text : List ℕ) (rs : List (ElementRun R Q)) → find (label text) (run_branches rs) ≡ None
  runs_label text [] = refl
  runs_label text (r ∷ rs) = alike_label text r.first (more_of r.first r.more) r.node (run_branches rs) ∙ runs_label text rs

  pub below_joined : {Q : Type 0} (own : Children R) (rest : Option (Box (Onward R Q) Global)) → join_children own (runs_in rest) ≡ below_in own rest
  below_joined own None = join_none own
  below_joined own (Some b) = refl

  -- ---- one step below a place: a field
  field_in : {Q : Type 0} (row : Option R) (cs : List (Child R)) (rest : Option (Box (Onward R Q) Global)) (text : List ℕ) → step_into (node row (below_in (branches cs) rest) (rest_in rest)) (label text) ≡ find (label text) (branches cs)
  field_in row cs None text = refl
  field_in row cs (Some b) text =
      let runs = run_branches b.value.runs.items in
      find_or (label text) (branches cs) runs ∙ ap (option_or (find (label text) (branches cs))) (runs_label text b.value.runs.items) ∙ or_none (find (label text) (branches cs))
    where
      or_none : (found : Option (Tree R)) → option_or found None ≡ found
      or_none None = refl
      or_none (Some t) = refl

  pub field_below : {Q : Type 0} (a : Inside R Q) (tree : Tree R) (text : List ℕ) → tree_of a ≡ tree → find (label text) (branches a.children.items) ≡ step_into tree (label text)
  field_below a tree text e = sym (field_in a.row a.children.items a.rest text) ∙ ap (λ t. step_into t (label text)) e

  -- an element before the rest
  pub element_before : {Q : Type 0} (a : Inside R Q) (tree : Tree R) (b : Box (Onward R Q) Global) (n : ℕ) → tree_of a ≡ tree → a.rest ≡ Some b → n < b.value.from
      → option_or (find (index n) (branches a.children.items)) (find (index n) (run_branches b.value.runs.items)) ≡ step_into tree (index n)
  element_before a tree b n e f l =
      let cs = branches a.children.items in
      let rs = run_branches b.value.runs.items in
      sym (find_or (index n) cs rs) ∙ sym (find_fixed b.value.from b.value.node (join_children cs rs) n l)
      ∙ sym (ap (λ r. step_into (node a.row (below_in cs r) (rest_in r)) (index n)) f) ∙ ap (λ t. step_into t (index n)) e

-- the branches of a tree in form
pub tree_below : {R : Type 0} (P : R → Type 0) (tree : Tree R) → IsTree P tree → AreBranches P (below tree)
tree_below P (node row children rest) h = h.1

-- ---- labels stand among the children alone
labels_alike : {R : Type 0} (i more : ℕ) (tree : Tree R) (others : Children R) → labels_of (alike_elements i more tree others) ≡ labels_of others
labels_alike i zero tree others = refl
labels_alike i (suc more) tree others = labels_alike (suc i) more tree others

labels_runs : {R Q : Type 0} (rs : List (ElementRun R Q)) → labels_of (run_branches rs) ≡ []
labels_runs [] = refl
labels_runs (r ∷ rs) = labels_alike r.first (more_of r.first r.more) r.node (run_branches rs) ∙ labels_runs rs

labels_join : {R : Type 0} (a b : Children R) → labels_of b ≡ [] → labels_of (join_children a b) ≡ labels_of a
labels_join none b e = e
labels_join (child (label text) tree children) b e = ap (λ ls. (text, tree) ∷ ls) (labels_join children b e)
labels_join (child (index i) tree children) b e = labels_join children b e

pub labels_below : {R Q : Type 0} (cs : List (Child R)) (rest : Option (Box (Onward R Q) Global)) → labels_of (branches cs) ≡ labels_of (below_in (branches cs) rest)
labels_below cs None = refl
labels_below cs (Some b) = sym (labels_join (branches cs) (run_branches b.value.runs.items) (labels_runs b.value.runs.items))

-- ---- the first branch of what is left, and the others
module _ {R : Type 0} where
  pub first_left : (span : Span) (tree : Tree R) (all left rest : List (Span × Tree R)) → all ≡ (span, tree) ∷ left → rest ≡ span_behind 0 span tree ++ left
      → branches_of_spans all ≡ child (first_of_span span) tree (branches_of_spans rest)
  first_left span tree all left rest e f = ap branches_of_spans e ∙ span_first span tree left ∙ ap (λ spans. child (first_of_span span) tree (branches_of_spans spans)) (sym f)

  -- they are in form where all are
  pub first_form : (P : R → Type 0) (span : Span) (tree : Tree R) (all left rest : List (Span × Tree R)) → all ≡ (span, tree) ∷ left → rest ≡ span_behind 0 span tree ++ left
      → AreBranches P (branches_of_spans all) → IsStepBelowAll (first_of_span span) (branches_of_spans rest) × IsTreeTaken tree × IsTree P tree × AreBranches P (branches_of_spans rest)
  first_form P span tree all left rest e f h = subst (AreBranches P) (first_left span tree all left rest e f) h

  -- so are a span and those behind it
  pub left_form : (P : R → Type 0) (span : Span) (tree : Tree R) (all left : List (Span × Tree R)) → all ≡ (span, tree) ∷ left
      → AreBranches P (branches_of_spans all) → IsTree P tree × AreBranches P (branches_of_spans left)
  left_form P span tree all left e h = span_form P span tree (branches_of_spans left) (subst (λ spans. AreBranches P (branches_of_spans spans)) e h)

-- ---- elements are left behind the labels
starts_join : {R : Type 0} (a b : Children R) → StartsAtIndex a → StartsAtIndex b → StartsAtIndex (join_children a b)
starts_join none b h k = k
starts_join (child (label text) tree children) b h k = h
starts_join (child (index i) tree children) b h k = tt

starts_alike : {R : Type 0} (i more : ℕ) (tree : Tree R) (others : Children R) → StartsAtIndex (alike_elements i more tree others)
starts_alike i zero tree others = tt
starts_alike i (suc more) tree others = tt

starts_runs : {R Q : Type 0} (rs : List (ElementRun R Q)) → StartsAtIndex (run_branches rs)
starts_runs [] = tt
starts_runs (r ∷ rs) = starts_alike r.first (more_of r.first r.more) r.node (run_branches rs)

items_join : {R : Type 0} (a b : Children R) → items_of (join_children a b) ≡ items_of a ++ items_of b
items_join none b = refl
items_join (child (label text) tree children) b = items_join children b
items_join (child (index i) tree children) b = ap (λ items. (i, tree) ∷ items) (items_join children b)

module _ {R : Type 0} where
  form_behind : (P : R → Type 0) (cs : List (Child R)) (k : ℕ) (b : Children R) → AreBranches P (join_children (branches cs) b) → AreBranches P (join_children (branches (drop k cs)) b)
  form_behind P cs zero b h = h
  form_behind P [] (suc k) b h = h
  form_behind P (c ∷ cs) (suc k) b h = form_behind P cs k b h.3

  abbrev Labels : List (Child R) → ℕ → Type 0
  Labels cs k = IsPartitionPoint (λ c. is_label c.step ≡ true) (λ c. is_label c.step ≡ false) cs k

  -- a way that has not begun has all branches of its lists
  whole_way : {Q : Type 0} (cursor : BranchCursor R Q) → cursor.begun ≡ None → branches_of_spans (spans_left cursor) ≡ join_children (branches cursor.own.now) (run_branches cursor.runs.now)
  whole_way cursor e = ap (λ b. branches_of_spans (begun_spans b ++ (spans_in cursor.own.now ++ run_spans cursor.runs.now))) e ∙ spread_place cursor.own.now cursor.runs.now

  -- without its labels it has the elements alone
  pub items_way : {Q : Type 0} (P : R → Type 0) (left right : BranchCursor R Q) (k : ℕ) → left.begun ≡ None → right.begun ≡ None → right.own.now ≡ drop k left.own.now → right.runs.now ≡ left.runs.now
      → Labels left.own.now k → AreBranches P (branches_of_spans (spans_left left))
      → AreBranches P (branches_of_spans (spans_left right)) × StartsAtIndex (branches_of_spans (spans_left right)) × (items_of (branches_of_spans (spans_left right)) ≡ items_of (branches_of_spans (spans_left left)))
  items_way P left right k e f own runs point h =
      let cs = left.own.now in
      let b = run_branches left.runs.now in
      let whole = whole_way left e in
      let is : branches_of_spans (spans_left right) ≡ join_children (branches (drop k cs)) b = whole_way right f ∙ (λ i. join_children (branches (own i)) (run_branches (runs i))) in
      let form = form_behind P cs k b (subst (AreBranches P) whole h) in (
        subst (AreBranches P) (sym is) form,
        subst StartsAtIndex (sym is) (starts_join (branches (drop k cs)) b (starts_from cs k point) (starts_runs left.runs.now)),
        ap items_of is ∙ items_join (branches (drop k cs)) b ∙ ap (λ items. items ++ items_of b) (items_from cs k point) ∙ sym (items_join (branches cs) b) ∙ ap items_of (sym whole),
      )

  -- the labels of its own branches come first
  pub own_way : {Q : Type 0} (P : R → Type 0) (left : BranchCursor R Q) → left.begun ≡ None → AreBranches P (branches_of_spans (spans_left left)) → StepsRise (branches left.own.now)
  own_way P left e h =
      let parts = join_parts P (branches left.own.now) (run_branches left.runs.now) (subst (AreBranches P) (whole_way left e) h) in
      branches_rise P (branches left.own.now) parts.0

-- ---- what is left is smaller
module _ {R : Type 0} where
  some_size : (tree : Tree R) → 0 < tree_size tree
  some_size (node row children rest) = omega arith

  begun_size : (step : Step) (p : ℕ) (tree : Tree R) (others : Children R) → tree_size tree + children_size others ≤ children_size (begun step p tree others)
  begun_size (label text) p tree others = omega arith
  begun_size (index i) zero tree others = omega arith
  begun_size (index i) (suc p) tree others = omega (arith, begun_size (index (suc i)) p tree others)

  pub behind_smaller : (passed : ℕ) (span : Span) (tree : Tree R) (all left rest : List (Span × Tree R)) → passed ≤ more_in span → all ≡ (span, tree) ∷ left → rest ≡ span_behind passed span tree ++ left
      → children_size (branches_of_spans rest) < children_size (branches_of_spans all)
  behind_smaller passed span tree all left rest l e f =
      let some = some_size tree in
      let is = ap (λ spans. children_size (branches_of_spans spans)) e in
      let cut = ap children_size (span_cut passed span tree left l) in
      let size = begun_size (first_of_span span) passed tree (branches_of_spans (span_behind passed span tree ++ left)) in
      let same = ap (λ spans. children_size (branches_of_spans spans)) f in
      omega (arith, some, is, cut, size, same)

is_end : (b : Bool) → false ≡ not b → b ≡ true
is_end true e = refl
is_end false e = cc

no_end : (b : Bool) → true ≡ not b → b ≡ true → ⊥
no_end true e h = cc
no_end false e h = cc

-- where one way has ended, both are the same if the other one has ended
pub both_end : {R X : Type 0} (all others left : List (Span × Tree R)) (item : X → Span × Tree R) (found : Option X) (ends : Bool) → is_some found ≡ not ends → all ≡ []
    → IfNone found (others ≡ []) → IfSome found (λ x. others ≡ item x ∷ left) → IsTrue ends ↔ (branches_of_spans all ≡ branches_of_spans others)
both_end all others left item None ends e f over more = (λ yes. ap branches_of_spans (f ∙ sym over), λ h. is_end ends e)
both_end all others left item (Some x) ends e f over more = (
  λ yes. absurd (no_end ends e yes),
  λ h. absurd (not_none (item x).0 (item x).1 others left more (sym h ∙ ap branches_of_spans f)),
)
