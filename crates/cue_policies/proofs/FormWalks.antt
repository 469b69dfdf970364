-- What a walk over a table finds is what the definition of well-formed policies says of what the
-- table refuses.
use Rattle.std.proofs.Common.{◌≡◌, ◌↔◌, inl, inr, ⊎_elim, ◌<◌, ◌≤◌, ◌+◌, Bool, true, false, ◌||◌, nat_lt, if◌then◌else◌, ℕ, zero, suc, List, [], ◌∷◌, length, drop, get_or, Option, Some, None, refl, sym, ap, subst, ◌∙◌, arith}
use Rattle.std.proofs.lemmas.Bool.{false≢true}
use Rattle.std.proofs.lemmas.List.{drop_more, drop_all}
use Rattle.std.specs.Str.{bytes_eq}
use Rattle.std.proofs.lemmas.Slice.Eq.{bytes_eq-Decides}
use Rattle.std.specs.declared.cmp.Ordering.{Ordering}
use Rattle.std.specs.declared.cmp.Ordering.TheVariants.{Less, Equal, Greater}
use Rattle.cue_lattice.specs.Path.{Step, label, index, step_cmp, Path}
use Rattle.cue_lattice.specs.Question.{Question, allows}
use Rattle.cue_row.specs.declared.parts.RowParts.{RowParts as Row}
use Rattle.cue_row.specs.LabelSets.{RefusesLabel}
use Rattle.cue_row.specs.Row as rows
use Rattle.cue_row.specs.Row.{RefusesAsked, IsRow}
use Rattle.cue_row.specs.Questions.{question_of}
use Rattle.cue_sets.specs.Texts.{is_listed}
use Rattle.cue_sets.specs.TextLaws.{greatest_length, zeros, is_listed-zeros}
use Rattle.cue_table.specs.Tree.{Tree, node, Children, none, child, Rest, no_rest, onward, row_of, below, rest_below, rest_at, find, find_with, if_equal, row_at}
use Rattle.cue_table.specs.Form.{IsTree, AreBranches, IsRestOf, IsRowKept, IsTable}
use Rattle.cue_table.specs.Refuses.{RowRefuses}
use Rattle.cue_table.specs.Spans.{Span, field, elements, first_of_span, alike_elements, branches_of_span, branches_of_spans}
use Rattle.cue_table.proofs.Branches.{find_first, find_rest, find_own}
use Rattle.cue_table.proofs.Depth.{found_row, row_found, found_later, kept_at, taken_row}
use Rattle.cue_table.proofs.Order.{equal_steps}
use Rattle.cue_policies.specs.Patterns.{IsPattern}
use Rattle.cue_policies.specs.WellFormed.{HasPattern, HasPatternInList, IsPlain, IsWellFormed}
use Rattle.cue_policies.specs.Inner.Forms.{ArePlain, IsPlainSet, IsPlainRow, MayStep, below_step, IsForm, AreForms, IsRestForm}
use Rattle.cue_policies.specs.Inner.Answers.{PolicyTreeRefusals}

-- ---- paths: a pattern that is in a list
PatternFrom : Bool → Path → Type 0
PatternFrom true path = HasPattern path
PatternFrom false path = HasPatternInList path

further : (b : Bool) (step : Step) (path : Path) → PatternFrom (below_step b step) path → PatternFrom b (step ∷ path)
unfolding PatternFrom
further true (label l) path h = inr h
further false (label l) path h = h
further true (index n) path h = h
further false (index n) path h = h

no_pattern_here : (b : Bool) (step : Step) (path : Path) → ¬ PatternFrom b (step ∷ path) → MayStep b step
unfolding PatternFrom
no_pattern_here true (label l) path non = λ p. non (inl p.1)
no_pattern_here false (label l) path non = λ p. false≢true p.0
no_pattern_here true (index n) path non = tt
no_pattern_here false (index n) path non = tt

no_pattern_behind : (b : Bool) (step : Step) (path : Path) → MayStep b step → ¬ PatternFrom (below_step b step) path → ¬ PatternFrom b (step ∷ path)
unfolding PatternFrom
no_pattern_behind true (label l) path may non h = ⊎_elim (λ p. may (refl, p)) non h
no_pattern_behind false (label l) path may non h = non h
no_pattern_behind true (index n) path may non h = non h
no_pattern_behind false (index n) path may non h = non h

no_pattern_at : (b : Bool) → ¬ PatternFrom b []
unfolding PatternFrom
no_pattern_at true h = h
no_pattern_at false h = h

-- ---- sets of labels without patterns
listed_plain : (labels : List (List ℕ)) (pattern : List ℕ) → ArePlain labels → is_listed labels pattern ≡ true → ¬ IsPattern pattern
listed_plain [] pattern h e is = false≢true e
listed_plain (l ∷ labels) pattern h e is = by (bytes_eq l pattern) refl (λ f. listed_plain labels pattern h.1 f is)
  where
    by : (b : Bool) → bytes_eq l pattern ≡ b → (is_listed labels pattern ≡ true → ⊥) → ⊥
    by true f more = h.0 (subst IsPattern (sym ((bytes_eq-Decides l pattern).0 f)) is)
    by false f more = more (sym (ap (λ b. b || is_listed labels pattern) f) ∙ e)

are_plain : (labels : List (List ℕ)) → ((pattern : List ℕ) → is_listed labels pattern ≡ true → ¬ IsPattern pattern) → ArePlain labels
are_plain [] non = tt
are_plain (l ∷ labels) non = (
  non l (ap (λ b. b || is_listed labels l) ((bytes_eq-Decides l l).1 refl)),
  are_plain labels (λ pattern e. non pattern (elim (bytes_eq l pattern) as (λ b. (b || is_listed labels pattern) ≡ true) [ true ↦ refl | false ↦ e ])),
)

-- where a set leaves out a label, it leaves out each pattern
LeavesOut : Option (List (List ℕ)) → Type 0
LeavesOut labels = (l pattern : List ℕ) → RefusesLabel labels l → IsPattern pattern → RefusesLabel labels pattern

plain_leaves_out : (labels : Option (List (List ℕ))) → IsPlainSet labels → LeavesOut labels
unfolding LeavesOut
plain_leaves_out None h l pattern r is = absurd (false≢true (sym r))
plain_leaves_out (Some labels) h l pattern r is = by (is_listed labels pattern) refl
  where
    by : (b : Bool) → is_listed labels pattern ≡ b → is_listed labels pattern ≡ false
    by true e = absurd (listed_plain labels pattern h e is)
    by false e = e

leaving_out_plain : (labels : Option (List (List ℕ))) → LeavesOut labels → IsPlainSet labels
unfolding LeavesOut
leaving_out_plain None h = tt
leaving_out_plain (Some labels) h = are_plain labels (λ pattern e is.
    let long = is_listed-zeros labels (greatest_length labels + 1) (omega arith) in
    false≢true (sym (h (zeros (greatest_length labels + 1)) pattern long is) ∙ e))

-- ---- from the walk to the rows
abbrev IsGood : Bool → Path → Row → Type 0
IsGood b path row = IsPlainSet row.labels × ¬ PatternFrom b path

form_here :
    (b : Bool) (step next : Step) (here : Tree Row) (other : Option (Tree Row)) (tree : Tree Row) → MayStep b next → IsForm (below_step b next) here
    → (other ≡ Some tree → MayStep b step × IsForm (below_step b step) tree)
    → (o : Ordering) → step_cmp step next ≡ o → if_equal o here other ≡ Some tree → MayStep b step × IsForm (below_step b step) tree
form_here b step next here other tree may h others Less c e = others e
form_here b step next here other tree may h others Greater c e = others e
form_here b step next here other tree may h others Equal c e =
    let steps : next ≡ step = sym (equal_steps step next c) in
    let same : here ≡ tree = cc in
    let one : IsForm (below_step b next) tree = subst (IsForm (below_step b next)) same h in
    subst (λ s. MayStep b s × IsForm (below_step b s) tree) steps (may, one)

form_own : (b : Bool) (step : Step) (children : Children Row) (tree : Tree Row) → AreForms b children → find step children ≡ Some tree → MayStep b step × IsForm (below_step b step) tree
form_own b step none tree h e = cc
form_own b step (child next here children) tree h e =
    form_here b step next here (find step children) tree h.0 h.1 (λ f. form_own b step children tree h.2 f) (step_cmp step next) refl e

form_else :
    (own : Option (Tree Row)) (b : Bool) (other tree : Tree Row) → (own ≡ Some tree → IsForm true tree) → IsForm true other
    → (if b then own else Some other) ≡ Some tree → IsForm true tree
form_else own true other tree f h e = f e
form_else own false other tree f h e = let same : other ≡ tree = cc in subst (IsForm true) same h

form_found :
    (b : Bool) (rest : Rest Row) (step : Step) (children : Children Row) (tree : Tree Row) → AreForms b children → IsRestForm rest
    → find_with rest step children ≡ Some tree → MayStep b step × IsForm (below_step b step) tree
form_found b no_rest step children tree h k e = form_own b step children tree h e
form_found b (onward n other) (label l) children tree h k e = form_own b (label l) children tree h e
form_found b (onward n other) (index i) children tree h k e =
    (tt, form_else (find (index i) children) (nat_lt i n) other tree (λ f. (form_own b (index i) children tree h f).1) k e)

row_plain : (here : Option Row) (row : Row) → here ≡ Some row → IsPlainRow here → IsPlainSet row.labels
row_plain here row e h = subst IsPlainRow e h

formed_rows : (b : Bool) (tree : Tree Row) (path : Path) (row : Row) → IsForm b tree → row_at tree path ≡ Some row → IsGood b path row
formed_rows b (node here children rest) [] row h e = (row_plain here row e h.0, no_pattern_at b)
formed_rows b (node here children rest) (step ∷ path) row h e =
    let found = row_found (find_with rest step children) path row e in
    let below = form_found b rest step children found.0 h.1 h.2 found.1 in
    let inner = formed_rows (below_step b step) found.0 path row below.1 found.2 in
    (inner.0, no_pattern_behind b step path below.0 inner.1)

-- ---- and back
abbrev Kept : Row → Type 0
Kept = IsRowKept RefusesAsked IsRow

plain_row : (here : Option Row) → ((row : Row) → here ≡ Some row → IsPlainSet row.labels) → IsPlainRow here
plain_row None h = tt
plain_row (Some row) h = h row refl

mutual
  rows_formed : (b : Bool) (tree : Tree Row) → IsTree Kept tree → ((path : Path) (row : Row) → row_at tree path ≡ Some row → IsGood b path row) → IsForm b tree
  rows_formed b (node here children rest) h good = (
    plain_row here (λ row e. (good [] row e).0),
    below_formed b children h.1 (λ step path row e.
        let found = row_found (find step children) path row e in
        good (step ∷ path) row (ap (λ f. found_row f path) (find_own Kept rest step found.0 children h.2 found.1) ∙ found.2)),
    rest_formed b children rest h.2 (λ step path row e. good (step ∷ path) row e),
  )

  below_formed :
      (b : Bool) (children : Children Row) → AreBranches Kept children → ((step : Step) (path : Path) (row : Row) → found_row (find step children) path ≡ Some row → IsGood b (step ∷ path) row)
      → AreForms b children
  below_formed b none h good = tt
  below_formed b (child step tree children) h good =
      let here : (path : Path) (row : Row) → row_at tree path ≡ Some row → IsGood b (step ∷ path) row
      = λ path row e. good step path row (ap (λ f. found_row f path) (find_first step tree children) ∙ e) in
      let some = taken_row Kept tree h.1 h.2 in (
        no_pattern_here b step some.0 (here some.0 some.1 some.2).1,
        rows_formed (below_step b step) tree h.2 (λ path row e. ((here path row e).0, λ p. (here path row e).1 (further b step path p))),
        below_formed b children h.3 (λ s path row e.
            let found = row_found (find s children) path row e in
            good s path row (ap (λ f. found_row f path) (found_later step tree children h.0 s found.0 found.1 (step_cmp s step) refl) ∙ found.2)),
      )

  rest_formed :
      (b : Bool) (children : Children Row) (rest : Rest Row) → IsRestOf Kept children rest
      → ((step : Step) (path : Path) (row : Row) → found_row (find_with rest step children) path ≡ Some row → IsGood b (step ∷ path) row) → IsRestForm rest
  rest_formed b children no_rest h good = tt
  rest_formed b children (onward n tree) h good =
      rows_formed true tree h.3 (λ path row e.
      let here = good (index n) path row (ap (λ f. found_row f path) (find_rest n tree children n (omega arith)) ∙ e) in
      (here.0, λ p. here.1 (further b (index n) path p)))

-- ---- what a table refuses
refusing : (here : Option Row) (question : Question) → RowRefuses rows.RowRefusesQuestion here question → (row : Row) × (here ≡ Some row) × rows.RowRefusesQuestion row question
refusing None question r = absurd r
refusing (Some row) question r = (row, refl, r)

refused : (here : Option Row) (row : Row) (question : Question) → here ≡ Some row → rows.RowRefusesQuestion row question → RowRefuses rows.RowRefusesQuestion here question
refused here row question e r = subst (λ o. RowRefuses rows.RowRefusesQuestion o question) (sym e) r

formed_refuses : (tree : Tree Row) → IsForm false tree → IsWellFormed (PolicyTreeRefusals tree)
unfolding PatternFrom LeavesOut
formed_refuses tree h = record {
  lists = λ path question r. let row = refusing (row_at tree path) question r in (formed_rows false tree path row.0 h row.1).1;
  sets = λ path l pattern r is.
      let row = refusing (row_at tree path) (allows l) r in
      refused (row_at tree path) row.0 (allows pattern) row.1 (plain_leaves_out row.0.labels (formed_rows false tree path row.0 h row.1).0 l pattern row.2 is);
}

one_row : (a : Option Row) (p q : Row) → a ≡ Some p → a ≡ Some q → p ≡ q
one_row a p q d e = cc

refuses_formed : (tree : Tree Row) → IsTable RefusesAsked IsRow tree → IsWellFormed (PolicyTreeRefusals tree) → IsForm false tree
unfolding PatternFrom LeavesOut
refuses_formed tree form well = rows_formed false tree form (λ path row e. (
  leaving_out_plain row.labels (λ l pattern r is.
      let all = refusing (row_at tree path) (allows pattern) (well.sets path l pattern (refused (row_at tree path) row (allows l) e r) is) in
      subst (λ (x : Row). RefusesLabel x.labels pattern) (one_row (row_at tree path) all.0 row all.1 e) all.2),
  λ p. (kept_at Kept tree path row form e).1 (λ question r. well.lists path (question_of question) (refused (row_at tree path) row (question_of question) e r) p),
))

-- a walk finds a table right just where it is a well-formed policy
pub well_formed : (tree : Tree Row) → IsTable RefusesAsked IsRow tree → IsForm false tree ↔ IsWellFormed (PolicyTreeRefusals tree)
well_formed tree form = (formed_refuses tree, refuses_formed tree form)

-- ---- the steps of the walk
alike_forms : (b : Bool) (i more : ℕ) (tree : Tree Row) (others : Children Row) → AreForms b (alike_elements i more tree others) ↔ (IsForm true tree × AreForms b others)
alike_forms b i zero tree others = (λ h. (h.1, h.2), λ h. (tt, h.0, h.1))
alike_forms b i (suc more) tree others =
    let behind = alike_forms b (suc i) more tree others in
    (λ h. (h.1, (behind.0 h.2).1), λ h. (tt, h.0, behind.1 h))

spanned_forms : (b : Bool) (span : Span) (tree : Tree Row) (others : Children Row)
    → AreForms b (branches_of_span span tree others) ↔ (MayStep b (first_of_span span) × IsForm (below_step b (first_of_span span)) tree × AreForms b others)
spanned_forms b (field l) tree others = (λ h. h, λ h. h)
spanned_forms b (elements i more) tree others =
    let all = alike_forms b i more tree others in
    (λ h. (tt, (all.0 h).0, (all.0 h).1), λ h. all.1 (h.1, h.2))

-- the walk went one span further: what is left decides the others
pub forms_more :
    (b : Bool) (all : Children Row) (rest left : List (Span × Tree Row)) (span : Span) (tree : Tree Row) → rest ≡ (span, tree) ∷ left
    → (AreForms b all ↔ AreForms b (branches_of_spans rest)) → MayStep b (first_of_span span) → IsForm (below_step b (first_of_span span)) tree
    → AreForms b all ↔ AreForms b (branches_of_spans left)
forms_more b all rest left span tree e same may is =
    let parts = spanned_forms b span tree (branches_of_spans left) in (
      λ h. let now = parts.0 (subst (λ spans. AreForms b (branches_of_spans spans)) e (same.0 h)) in now.2,
      λ h. same.1 (subst (λ spans. AreForms b (branches_of_spans spans)) (sym e) (parts.1 (may, is, h))),
    )

-- the span at hand is right where all are
pub forms_first :
    (b : Bool) (all : Children Row) (rest left : List (Span × Tree Row)) (span : Span) (tree : Tree Row) → rest ≡ (span, tree) ∷ left
    → (AreForms b all ↔ AreForms b (branches_of_spans rest)) → AreForms b all → MayStep b (first_of_span span) × IsForm (below_step b (first_of_span span)) tree
forms_first b all rest left span tree e same h =
    let now = (spanned_forms b span tree (branches_of_spans left)).0 (subst (λ spans. AreForms b (branches_of_spans spans)) e (same.0 h)) in (now.0, now.1)

-- where nothing is left, all are right
pub forms_all : (b : Bool) (all : Children Row) (rest : List (Span × Tree Row)) → rest ≡ [] → (AreForms b all ↔ AreForms b (branches_of_spans rest)) → AreForms b all
forms_all b all rest e same = same.1 (subst (λ spans. AreForms b (branches_of_spans spans)) (sym e) tt)

-- a place by its parts
pub record IsPlaceForm (b : Bool) (tree : Tree Row) : Type 0 where
  pub row : IsPlainRow (row_of tree)
  pub children : AreForms b (below tree)
  pub rest : IsRestForm (rest_below tree)

pub form_parts : (b : Bool) (tree : Tree Row) → IsForm b tree → IsPlaceForm b tree
form_parts b (node row children rest) h = record { row = h.0; children = h.1; rest = h.2 }

pub form_whole : (b : Bool) (tree : Tree Row) → IsPlaceForm b tree → IsForm b tree
form_whole b (node row children rest) h = (h.row, h.children, h.rest)

pub no_rest_form : (tree : Tree Row) → rest_at (rest_below tree) ≡ None → IsRestForm (rest_below tree)
no_rest_form (node row children no_rest) e = tt
no_rest_form (node row children (onward n rest)) e = cc

pub rest_form : (tree rest : Tree Row) → rest_at (rest_below tree) ≡ Some rest → IsForm true rest ↔ IsRestForm (rest_below tree)
rest_form (node row children no_rest) rest e = cc
rest_form (node row children (onward n tree)) rest e =
    let same : rest ≡ tree = cc in
    (λ h. subst (IsForm true) same h, λ h. subst (IsForm true) (sym same) h)

-- ---- a walk over labels
pub plain_more : (labels : List (List ℕ)) (i : ℕ) (d : List ℕ) → i < length labels → (ArePlain labels ↔ ArePlain (drop i labels)) → ¬ IsPattern (get_or labels i d) → ArePlain labels ↔ ArePlain (drop (i + 1) labels)
plain_more labels i d less same non =
    let cut = drop_more labels i d less in (
      λ h. let here : ArePlain (get_or labels i d ∷ drop (i + 1) labels) = subst ArePlain cut (same.0 h) in here.1,
      λ h. same.1 (subst ArePlain (sym cut) (non, h)),
    )

pub plain_here : (labels : List (List ℕ)) (i : ℕ) (d : List ℕ) → i < length labels → (ArePlain labels ↔ ArePlain (drop i labels)) → ArePlain labels → ¬ IsPattern (get_or labels i d)
plain_here labels i d less same h =
    let here : ArePlain (get_or labels i d ∷ drop (i + 1) labels) = subst ArePlain (drop_more labels i d less) (same.0 h) in here.0

pub plain_all : (labels : List (List ℕ)) (i : ℕ) → length labels ≤ i → (ArePlain labels ↔ ArePlain (drop i labels)) → ArePlain labels
plain_all labels i done same = same.1 (subst ArePlain (sym (drop_all i labels done)) tt)

-- a well-formed policy has no pattern just where a walk that starts in a list finds it right
pub plain_form : (tree : Tree Row) → IsTable RefusesAsked IsRow tree → IsWellFormed (PolicyTreeRefusals tree) → IsForm true tree ↔ IsPlain (PolicyTreeRefusals tree)
unfolding PatternFrom LeavesOut
plain_form tree form well = (
  λ h path question r. let row = refusing (row_at tree path) question r in (formed_rows true tree path row.0 h row.1).1,
  λ plain. rows_formed true tree form (λ path row e. (
    leaving_out_plain row.labels (λ l pattern r is.
        let all = refusing (row_at tree path) (allows pattern) (well.sets path l pattern (refused (row_at tree path) row (allows l) e r) is) in
        subst (λ (x : Row). RefusesLabel x.labels pattern) (one_row (row_at tree path) all.0 row all.1 e) all.2),
    λ p. (kept_at Kept tree path row form e).1 (λ question r. plain path (question_of question) (refused (row_at tree path) row (question_of question) e r) p),
  )),
)
