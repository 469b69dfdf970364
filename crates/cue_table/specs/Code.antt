-- Trees as stored values: each has a value of its own.
use Rattle.std.specs.Prelude.{◌≡◌, ℕ, List, Option, Some, None, refl}
use Rattle.std.proofs.Common.{ap}
use Rattle.std.specs.Coded.{Coded, coded_ℕ, coded_list, coded×}
use base.Stored.{Gv, gnil, gnum, gcons, num}
use Rattle.cue_lattice.specs.Path.{Step, label, index}
use Rattle.cue_table.specs.Spans.{Span, field, elements}
use Rattle.cue_table.specs.Tree.{Tree, node, Children, none, child, Rest, no_rest, onward}

abbrev pub head : Gv → Gv
head gnil = gnil
head (gnum n) = gnil
head (gcons a b) = a

abbrev pub tail : Gv → Gv
tail gnil = gnil
tail (gnum n) = gnil
tail (gcons a b) = b

abbrev pub texts_of_code : Coded (List ℕ)
texts_of_code = coded_list coded_ℕ

pub step_gv : Step → Gv
step_gv (label text) = gcons (gnum 0) (texts_of_code.code text)
step_gv (index number) = gcons (gnum 1) (gnum number)

pub step_inj : (s t : Step) → step_gv s ≡ step_gv t → s ≡ t
unfolding step_gv
step_inj (label s) (label t) e = ap label (texts_of_code.inj s t (ap tail e))
step_inj (index m) (index n) e = ap (λ g. index (num (tail g))) e
step_inj (label s) (index n) e = cc
step_inj (index m) (label t) e = cc

pub row_gv : {R : Type 0} → (R → Gv) → Option R → Gv
row_gv c None = gnil
row_gv c (Some row) = gcons gnil (c row)

pub row_inj : {R : Type 0} (c : Coded R) (q r : Option R)
    → row_gv c.code q ≡ row_gv c.code r → q ≡ r
unfolding row_gv
row_inj c None None e = refl
row_inj c (Some q) (Some r) e = ap Some (c.inj q r (ap tail e))
row_inj c None (Some r) e = cc
row_inj c (Some q) None e = cc

mutual
  pub tree_gv : {R : Type 0} → (R → Gv) → Tree R → Gv
  tree_gv c (node row children rest) =
      gcons (row_gv c row) (gcons (children_gv c children) (rest_gv c rest))

  pub children_gv : {R : Type 0} → (R → Gv) → Children R → Gv
  children_gv c none = gnil
  children_gv c (child step tree children) =
      gcons (step_gv step) (gcons (tree_gv c tree) (children_gv c children))

  pub rest_gv : {R : Type 0} → (R → Gv) → Rest R → Gv
  rest_gv c no_rest = gnil
  rest_gv c (onward n tree) = gcons (gnum n) (tree_gv c tree)

mutual
  unfolding tree_gv children_gv rest_gv

  pub tree_inj : {R : Type 0} (c : Coded R) (s t : Tree R)
      → tree_gv c.code s ≡ tree_gv c.code t → s ≡ t
  tree_inj c (node q cs m) (node r ds n) e =
      let row = row_inj c q r (ap head e) in
      let children = children_inj c cs ds (ap (λ g. head (tail g)) e) in
      let rest = rest_inj c m n (ap (λ g. tail (tail g)) e) in
      λ i. node (row i) (children i) (rest i)

  pub children_inj : {R : Type 0} (c : Coded R) (cs ds : Children R)
      → children_gv c.code cs ≡ children_gv c.code ds → cs ≡ ds
  children_inj c none none e = refl
  children_inj c (child s t cs) (child u v ds) e =
      let step = step_inj s u (ap head e) in
      let tree = tree_inj c t v (ap (λ g. head (tail g)) e) in
      let children = children_inj c cs ds (ap (λ g. tail (tail g)) e) in
      λ i. child (step i) (tree i) (children i)
  children_inj c none (child u v ds) e = cc
  children_inj c (child s t cs) none e = cc

  pub rest_inj : {R : Type 0} (c : Coded R) (m n : Rest R)
      → rest_gv c.code m ≡ rest_gv c.code n → m ≡ n
  rest_inj c no_rest no_rest e = refl
  rest_inj c (onward i s) (onward j t) e =
      let number : i ≡ j = ap (λ g. num (head g)) e in
      let tree = tree_inj c s t (ap tail e) in
      λ k. onward (number k) (tree k)
  rest_inj c no_rest (onward j t) e = cc
  rest_inj c (onward i s) no_rest e = cc

-- the code of trees, from that of rows
abbrev pub tree_code : {R : Type 0} → Coded R → Coded (Tree R)
tree_code c = record { code = tree_gv c.code; inj = tree_inj c }

-- the codes of branches, of those at labels, of those at indexes and of spans
abbrev pub children_code : {R : Type 0} → Coded R → Coded (Children R)
children_code c = record { code = children_gv c.code; inj = children_inj c }

abbrev pub labels_code : {R : Type 0} → Coded R → Coded (List (List ℕ × Tree R))
labels_code c = coded_list (coded× texts_of_code (tree_code c))

abbrev pub items_code : {R : Type 0} → Coded R → Coded (List (ℕ × Tree R))
items_code c = coded_list (coded× coded_ℕ (tree_code c))

pub span_gv : Span → Gv
span_gv (field text) = gcons (gnum 0) (texts_of_code.code text)
span_gv (elements first more) = gcons (gnum 1) (gcons (gnum first) (gnum more))

pub span_inj : (s t : Span) → span_gv s ≡ span_gv t → s ≡ t
unfolding span_gv
span_inj (field s) (field t) e = ap field (texts_of_code.inj s t (ap tail e))
span_inj (elements i m) (elements j n) e =
    let first : i ≡ j = ap (λ g. num (head (tail g))) e in
    let more : m ≡ n = ap (λ g. num (tail (tail g))) e in
    λ k. elements (first k) (more k)
span_inj (field s) (elements j n) e = cc
span_inj (elements i m) (field t) e = cc

abbrev pub coded_span : Coded Span
coded_span = record { code = span_gv; inj = span_inj }

abbrev pub spans_code : {R : Type 0} → Coded R → Coded (List (Span × Tree R))
spans_code c = coded_list (coded× coded_span (tree_code c))
