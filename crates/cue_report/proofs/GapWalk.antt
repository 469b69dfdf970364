-- The walk of a search for gaps over the branches of a place, and over the elements that have none.
use Rattle.std.proofs.Common.{◌≡◌, ◌⊎◌, inl, inr, ⊎_elim, ℕ, zero, suc, ◌+◌, ◌-◌, ◌<◌, ◌≤◌, min, nat_lt, if◌then◌else◌, Bool, true, false, List, [], ◌∷◌, ◌++◌, Option, None, Some, refl, sym, ap, subst, ◌∙◌, arith, append_assoc}
use Rattle.std.proofs.lemmas.Bool.{false≢true, cases_lt}
use Rattle.std.proofs.lemmas.Bool.Decides.{nat_tests}
use Rattle.std.proofs.Math.Nat.{eq-or-lt_of_le}
use Rattle.std.proofs.lemmas.Cmp.{nat_list_cmp_total, nat_cmp_total}
use Rattle.std.specs.Cmp.{nat_cmp_is}
use Rattle.std.specs.Ordering.{ordering_then}
use Rattle.std.proofs.lemmas.List.{append-nil}
use Rattle.std.specs.declared.cmp.Ordering.TheVariants.{Less}
use Rattle.cue_lattice.specs.Path as paths
use Rattle.cue_lattice.specs.Path.{label, index, step_cmp, Path, path_cmp}
use Rattle.cue_row.specs.declared.parts.RowParts.{RowParts as Row}
use Rattle.cue_row.specs.Row.{RefusesAsked, IsRow}
use Rattle.cue_table.specs.Form.{AreBranches, IsStepBelowAll, IsRowKept, IsTable}
use Rattle.cue_table.specs.Spans.{Span, field, elements, alike_elements, branches_of_span, branches_of_spans}
use Rattle.cue_table.specs.Tree.{Tree, Children, none, child, empty, row_of, below, rest_below, find, step_into, if_equal}
use Rattle.cue_table.specs.Size.{children_size}
use Rattle.cue_table.proofs.Spanned.{left_size}
use Rattle.cue_report.specs.Answers.{IsStepDemanded}
use Rattle.cue_report.specs.Inner.GapSearch.{IsGapIn, IsGapHere, IsGapBelow, free_at, free_elements, free_before, next_after}
use Rattle.cue_report.specs.Listing.{Lists}
use Rattle.cue_report.specs.Inner.Search.{is_demanded, is_refused, least_at, rest_from}
use Rattle.cue_report.specs.declared.gap.Gap.{Gap}
use Rattle.cue_report.proofs.Order.{same_step}
use Rattle.cue_report.proofs.Rests.{own, at_label, at_fixed, own_before, before_end, up_to_end, branches}
use Rattle.cue_report.proofs.Rows.{longer_is, is_below, is_long}
use Rattle.cue_report.proofs.Descent.{Told, seen, seen_empty, first_demanded}
use Rattle.cue_report.proofs.Open.{free_gap}
use Rattle.cue_report.proofs.Found.{found_first, found_cases, below_found}
use Rattle.cue_report.proofs.FoundGaps.{place_of, UpTo, IsIn, step_demanded, gap_up, gap_down, extended, extended_by, from_here, one_here, here_only}
use Rattle.cue_report.proofs.SpanSteps.{last_below, alike_at, alike_is, only_branch, span_own, span_either, span_later, span_rise, span_below}

-- ---- steps and branches
-- a step below all branches is none of them
not_found : (step : paths.Step) (children : Children Row) (inner : Tree Row) → IsStepBelowAll step children → find step children ≡ Some inner → ⊥
not_found step none inner b f = cc
not_found step (child next tree children) inner b f = not_found step children inner b.1 (sym (ap (λ o. if_equal o tree (find step children)) b.0) ∙ f)

-- a step below another one is below all branches behind that
trans : (x y z : paths.Step) → step_cmp x y ≡ Less → step_cmp y z ≡ Less → step_cmp x z ≡ Less
trans (label l) (label m) (label n) h g = nat_list_cmp_total.trans l m n h g
trans (label l) (label m) (index n) h g = refl
trans (label l) (index m) (index n) h g = refl
trans (index l) (index m) (index n) h g = nat_cmp_total.trans l m n h g
trans (label l) (index m) (label n) h g = cc
trans (index l) (label m) z h g = cc
trans (index l) (index m) (label n) h g = cc

below_further : (low step : paths.Step) (children : Children Row) → step_cmp low step ≡ Less → IsStepBelowAll step children → IsStepBelowAll low children
below_further low step none h b = tt
below_further low step (child next tree children) h b = (trans low step next h b.0, below_further low step children h b.1)

pub less_index : (m n : ℕ) → m < n → step_cmp (index m) (index n) ≡ Less
less_index m n h = sym (nat_cmp_is m n Less h)

pub not_lt : (m n : ℕ) → (m < n → ⊥) → n ≤ m
not_lt m n h = omega (arith, h)

up_to : (n next : ℕ) → n < next + 1 → (n < next) ⊎ (n ≡ next)
up_to n next h = ⊎_elim (λ e. inr e) (λ l. inl l) (eq-or-lt_of_le {n = n} {m = next} (omega arith))

-- ---- how far the walk is: the branches that are left, and the next element
abbrev pub IsDone : Children Row → ℕ → paths.Step → Type 0
IsDone rest next (label text) = IsStepBelowAll (label text) rest
IsDone rest next (index n) = n < next

pub record IsOver (not_allowed : Bool) (tree : Tree Row) (rest : Children Row) (next : ℕ) (found : List Gap) : Type 0 where
  pub table : IsTable RefusesAsked IsRow tree
  pub within : next ≤ rest_from (rest_below tree) (least_at (row_of tree))
  pub small : children_size rest ≤ children_size (below tree)
  pub rise : AreBranches (IsRowKept RefusesAsked IsRow) rest
  pub among : (s : paths.Step) (inner : Tree Row) → find s rest ≡ Some inner → find s (below tree) ≡ Some inner
  pub left : (s : paths.Step) (inner : Tree Row) → IsStepDemanded (Told tree) [] s → find s (below tree) ≡ Some inner → IsDone rest next s ⊎ (find s rest ≡ Some inner)
  pub behind : (n : ℕ) → n < next → IsStepBelowAll (index n) rest
  pub lists : UpTo not_allowed tree (IsDone rest next) found

-- what stands at a label that is demanded
pub demanded_label : (tree : Tree Row) (text : List ℕ) → IsStepDemanded (Told tree) [] (label text) → (inner : Tree Row) × (find (label text) (below tree) ≡ Some inner)
demanded_label tree text d = ⊎_elim
    (λ f. absurd (false≢true ((first_demanded tree empty (label text) (seen_empty tree (label text) f)).1 d)))
    (λ (inner, f). (inner, sym (at_label tree text) ∙ f)) (found_cases (step_into tree (label text)))

-- what was looked at is before each branch that is left
pub done_before :
    (not_allowed : Bool) (tree : Tree Row) (rest : Children Row) (next : ℕ) (found : List Gap) → IsOver not_allowed tree rest next found
    → (s step : paths.Step) (t : Tree Row) → IsDone rest next s → find step rest ≡ Some t → step_cmp s step ≡ Less
done_before not_allowed tree rest next found w (label text) step t h f = below_found (label text) step t rest h f
done_before not_allowed tree rest next found w (index n) step t h f = below_found (index n) step t rest (w.behind n h) f

-- ---- the walk begins
pub started :
    (not_allowed : Bool) (tree : Tree Row) (found : List Gap) → IsTable RefusesAsked IsRow tree → Lists place_of (IsGapHere not_allowed (row_of tree)) found
    → IsOver not_allowed tree (below tree) 0 found
started not_allowed tree found t h = record {
  table = t;
  within = omega arith;
  small = omega arith;
  rise = branches tree t;
  among = λ s inner f. f;
  left = λ s inner d f. inr f;
  behind = λ n l. let no : ⊥ = omega arith in absurd no;
  lists = from_here not_allowed tree (IsDone (below tree) 0) found h none_done;
} where
  none_done : (s : paths.Step) → IsStepDemanded (Told tree) [] s → IsDone (below tree) 0 s → ⊥
  none_done (label text) d b = let inner = demanded_label tree text d in not_found (label text) (below tree) inner.0 b inner.1
  none_done (index n) d l = let low : n < 0 = l in omega arith

-- ---- a free element is found
empty_gaps : (not_allowed : Bool) → not_allowed ≡ false → Lists place_of (IsGapIn not_allowed empty) (free_at [] ∷ [])
empty_gaps not_allowed e = here_only not_allowed empty (free_at [] ∷ []) (subst (λ b. Lists place_of (IsGapHere b None) (free_at [] ∷ [])) (sym e) (one_here None false free_gap)) none_demanded
  where
    none_demanded : (s : paths.Step) → IsStepDemanded (Told empty) [] s → ⊥
    none_demanded (label text) d = d
    none_demanded (index n) d = d

freed_one :
    (not_allowed : Bool) (tree : Tree Row) (rest : Children Row) (next : ℕ) (found : List Gap)
    → IsOver not_allowed tree rest next found → step_into tree (index next) ≡ None → IsStepBelowAll (index next) rest → next < rest_from (rest_below tree) (least_at (row_of tree))
    → is_demanded (row_of tree) (index next) None ≡ true → IsOver not_allowed tree rest (next + 1) (found ++ free_at (index next ∷ []) ∷ [])
freed_one not_allowed tree rest next found w f b m d = record {
  table = w.table;
  within = omega (arith, m);
  small = w.small;
  rise = w.rise;
  among = w.among;
  left = λ s inner d f. ⊎_elim (λ h. inl (kept s h)) (λ h. inr h) (w.left s inner d f);
  behind = behind;
  lists = extended not_allowed tree empty (index next) (IsDone rest next) (IsDone rest (next + 1)) found (free_at [] ∷ []) (seen_empty tree (index next) f) d
      (empty_gaps (is_refused (row_of tree) (index next)) (allowed (row_of tree))) w.lists before kept (omega arith) covered;
} where
  allowed : (row : Option Row) → is_refused row (index next) ≡ false
  allowed None = refl
  allowed (Some row) = refl

  kept : (s : paths.Step) → IsDone rest next s → IsDone rest (next + 1) s
  kept (label text) h = h
  kept (index n) h = let low : n < next = h in omega arith

  behind : (n : ℕ) → n < next + 1 → IsStepBelowAll (index n) rest
  behind n h = ⊎_elim (λ l. w.behind n l) (λ e. subst (λ m. IsStepBelowAll (index m) rest) (sym e) b) (up_to n next h)

  before : (s : paths.Step) → IsDone rest next s → step_cmp s (index next) ≡ Less
  before (label text) h = refl
  before (index n) h = less_index n next h

  covered : (s : paths.Step) → IsStepDemanded (Told tree) [] s → IsDone rest (next + 1) s → IsDone rest next s ⊎ (s ≡ index next)
  covered (label text) d h = inl h
  covered (index n) d h = ⊎_elim (λ l. inl l) (λ e. inr (ap index e)) (up_to n next h)

-- an element that was not looked at, and is below all branches that are left, has none
no_branch :
    (not_allowed : Bool) (tree : Tree Row) (rest : Children Row) (next n : ℕ) (found : List Gap)
    → IsOver not_allowed tree rest next found → next ≤ n → n < rest_from (rest_below tree) (least_at (row_of tree)) → IsStepBelowAll (index n) rest → step_into tree (index n) ≡ None
no_branch not_allowed tree rest next n found w l m b =
    let known = before_end (rest_below tree) (least_at (row_of tree)) n m in
    at_fixed tree n known.1 ∙ ⊎_elim (λ f. f) (λ (inner, f). absurd (none inner f)) (found_cases (find (index n) (below tree)))
  where
    none : (inner : Tree Row) → find (index n) (below tree) ≡ Some inner → ⊥
    none inner f = ⊎_elim (λ d. let low : n < next = d in omega arith) (λ g. not_found (index n) rest inner b g)
        (w.left (index n) inner ((longer_is (row_of tree) n).0 (is_long (row_of tree) n (before_end (rest_below tree) (least_at (row_of tree)) n m).0)) f)

pub freed :
    (not_allowed : Bool) (tree : Tree Row) (rest : Children Row) (next count : ℕ) (found : List Gap)
    → IsOver not_allowed tree rest next found → ((n : ℕ) → next ≤ n → n < next + count → (n < rest_from (rest_below tree) (least_at (row_of tree))) × IsStepBelowAll (index n) rest)
    → IsOver not_allowed tree rest (next + count) (found ++ free_elements next count)
freed not_allowed tree rest next zero found w free =
    let same : next ≡ next + 0 = omega arith in
    subst (λ xs. IsOver not_allowed tree rest (next + 0) xs) (sym (append-nil found)) (subst (λ k. IsOver not_allowed tree rest k found) same w)
freed not_allowed tree rest next (suc count) found w free =
    let so_far : List Gap = found ++ free_elements next count in
    let last : next + count + 1 ≡ next + suc count = omega arith in
    let before = freed not_allowed tree rest next count found w (λ n l m. free n l (omega arith)) in
    let this = free (next + count) (omega arith) (omega arith) in
    subst (λ xs. IsOver not_allowed tree rest (next + suc count) xs) (append_assoc found (free_elements next count) (free_at (index (next + count) ∷ []) ∷ []))
    (subst (λ k. IsOver not_allowed tree rest k (so_far ++ free_at (index (next + count) ∷ []) ∷ [])) last
    (freed_one not_allowed tree rest (next + count) so_far before
    (no_branch not_allowed tree rest (next + count) (next + count) so_far before (omega arith) this.0 this.1) this.1 this.0
    (is_long (row_of tree) (next + count) (before_end (rest_below tree) (least_at (row_of tree)) (next + count) this.0).0)))

-- an element of its own is before the rest
own_end :
    (not_allowed : Bool) (tree inner : Tree Row) (rest : Children Row) (next number : ℕ) (found : List Gap)
    → IsOver not_allowed tree (child (index number) inner rest) next found → number < least_at (row_of tree)
    → number < rest_from (rest_below tree) (least_at (row_of tree))
own_end not_allowed tree inner rest next number found w d =
    up_to_end (rest_below tree) (least_at (row_of tree)) number d (own_before tree inner number w.table (w.among (index number) inner (found_first (index number) inner rest)))

-- the free elements before a branch are found
reached :
    (not_allowed : Bool) (tree inner : Tree Row) (rest : Children Row) (next number : ℕ) (found : List Gap)
    → IsOver not_allowed tree (child (index number) inner rest) next found → number < least_at (row_of tree)
    → IsOver not_allowed tree (child (index number) inner rest) number (found ++ free_elements next (number - next))
reached not_allowed tree inner rest next number found w d =
    let end : ℕ = rest_from (rest_below tree) (least_at (row_of tree)) in
    let last : number < end = own_end not_allowed tree inner rest next number found w d in
    let low : next ≤ number = not_lt number next no_later in
    let all : next + (number - next) ≡ number = omega arith in
    subst (λ k. IsOver not_allowed tree (child (index number) inner rest) k (found ++ free_elements next (number - next))) all
    (freed not_allowed tree (child (index number) inner rest) next (number - next) found w
    (λ n l m. (omega arith, (less_index n number (omega arith), below_further (index n) (index number) rest (less_index n number (omega arith)) w.rise.0))))
  where
    no_later : number < next → ⊥
    no_later l = let other = (w.behind number l).0 in let same = same_step (index number) in cc

-- ---- branches that are kept as one are looked at, or passed over
-- a label before the others is before all, or that of one of them
label_covered :
    (not_allowed : Bool) (tree inner : Tree Row) (span : Span) (rest : Children Row) (next : ℕ) (found : List Gap)
    → IsOver not_allowed tree (branches_of_span span inner rest) next found → (text : List ℕ) → IsStepDemanded (Told tree) [] (label text) → IsStepBelowAll (label text) rest
    → IsStepBelowAll (label text) (branches_of_span span inner rest) ⊎ ((t : Tree Row) × (find (label text) (branches_of_span span inner none) ≡ Some t))
label_covered not_allowed tree inner span rest next found w text d b =
    let found = demanded_label tree text d in
    ⊎_elim (λ h. inl h)
    (λ g. ⊎_elim (λ f. inr (found.0, f)) (λ k. absurd (not_found (label text) rest found.0 b k)) (span_either (label text) span inner found.0 rest g)) (w.left (label text) found.0 d found.1)

-- the gaps of a span, and those of its place
module _
    (not_allowed : Bool) (tree inner : Tree Row) (span : Span) (others : Children Row) (next : ℕ) (found : List Gap)
    (w : IsOver not_allowed tree (branches_of_span span inner others) next found) where
  stands : (s : paths.Step) (t : Tree Row) → find s (branches_of_span span inner none) ≡ Some t → step_into tree s ≡ Some t
  stands s t f = own tree t s w.table (w.among s t (span_own s span inner t others f))

  pub span_up : (gap : Gap) → IsGapBelow (row_of tree) (branches_of_span span inner none) gap → IsGapIn not_allowed tree gap
  span_up gap h =
      subst (λ p. IsGapIn not_allowed tree (record gap { path = p })) (sym h.is)
      (gap_up not_allowed tree h.tree h.step (record gap { path = h.path }) (seen tree h.tree h.step (stands h.step h.tree h.found)) h.demanded h.inner)

  pub span_asked : (s : paths.Step) (t : Tree Row) → find s (branches_of_span span inner none) ≡ Some t → IsStepDemanded (Told tree) [] s → is_demanded (row_of tree) s (row_of t) ≡ true
  span_asked s t f d = (first_demanded tree t s (seen tree t s (stands s t f))).1 d

  pub span_down :
      (gap : Gap) (s : paths.Step) (path : Path) → gap.path ≡ s ∷ path → IsGapIn not_allowed tree gap → (t : Tree Row) → find s (branches_of_span span inner none) ≡ Some t
      → IsGapBelow (row_of tree) (branches_of_span span inner none) gap
  span_down gap s path e h t f = record {
    step = s;
    tree = t;
    path = path;
    is = e;
    found = f;
    demanded = span_asked s t f (step_demanded not_allowed tree gap s path e h);
    inner = gap_down not_allowed tree t s gap path e (seen tree t s (stands s t f)) h;
  }

  before : (s step : paths.Step) (t : Tree Row) → IsDone (branches_of_span span inner others) next s → find step (branches_of_span span inner none) ≡ Some t → step_cmp s step ≡ Less
  before s step t h f = done_before not_allowed tree (branches_of_span span inner others) next found w s step t h (span_own step span inner t others f)

  pub span_order : (p : Path) (gap : Gap) → IsIn (IsDone (branches_of_span span inner others) next) p → IsGapBelow (row_of tree) (branches_of_span span inner none) gap → path_cmp p gap.path ≡ Less
  span_order p gap d h = subst (λ q. path_cmp p q ≡ Less) (sym h.is) (by p d) where
    by : (q : Path) → IsIn (IsDone (branches_of_span span inner others) next) q → path_cmp q (h.step ∷ h.path) ≡ Less
    by [] d = refl
    by (s ∷ q) d = ap (λ o. ordering_then o (path_cmp q h.path)) (before s h.step h.tree d h.found)

module _
    (not_allowed : Bool) (tree inner : Tree Row) (span : Span) (left : List (Span × Tree Row)) (next later : ℕ) (found ys : List Gap)
    (w : IsOver not_allowed tree (branches_of_span span inner (branches_of_spans left)) next found) (adds : Lists place_of (IsGapBelow (row_of tree) (branches_of_span span inner none)) ys)
    (more : next ≤ later) (within : later ≤ rest_from (rest_below tree) (least_at (row_of tree))) (behind : (n : ℕ) → n < later → IsStepBelowAll (index n) (branches_of_spans left))
    (new : (s : paths.Step) (t : Tree Row) → is_demanded (row_of tree) s (row_of t) ≡ true → find s (branches_of_span span inner none) ≡ Some t → IsDone (branches_of_spans left) later s)
    (covered : (n : ℕ) → n < later → (n < next) ⊎ ((t : Tree Row) × (find (index n) (branches_of_span span inner none) ≡ Some t))) where
  kept : (s : paths.Step) → IsDone (branches_of_span span inner (branches_of_spans left)) next s → IsDone (branches_of_spans left) later s
  kept (label text) h = span_below (label text) span inner (branches_of_spans left) h
  kept (index n) h = let low : n < next = h in omega arith

  up : (gap : Gap) → IsGapBelow (row_of tree) (branches_of_span span inner none) gap → IsGapIn not_allowed tree gap × IsIn (IsDone (branches_of_spans left) later) gap.path
  up gap h = (
    span_up not_allowed tree inner span (branches_of_spans left) next found w gap h,
    subst (IsIn (IsDone (branches_of_spans left) later)) (sym h.is) (new h.step h.tree h.demanded h.found),
  )

  either : (s : paths.Step) → IsStepDemanded (Told tree) [] s → IsDone (branches_of_spans left) later s → IsDone (branches_of_span span inner (branches_of_spans left)) next s ⊎ ((t : Tree Row) × (find s (branches_of_span span inner none) ≡ Some t))
  either (label text) d h = label_covered not_allowed tree inner span (branches_of_spans left) next found w text d h
  either (index n) d h = covered n h

  cover :
      (gap : Gap) (s : paths.Step) (path : Path) → gap.path ≡ s ∷ path → IsGapIn not_allowed tree gap → IsDone (branches_of_spans left) later s
      → IsDone (branches_of_span span inner (branches_of_spans left)) next s ⊎ IsGapBelow (row_of tree) (branches_of_span span inner none) gap
  cover gap s path e h d =
      ⊎_elim (λ k. inl k) (λ (t, f). inr (span_down not_allowed tree inner span (branches_of_spans left) next found w gap s path e h t f)) (either s (step_demanded not_allowed tree gap s path e h) d)

  looked_at : IsOver not_allowed tree (branches_of_spans left) later (found ++ ys)
  looked_at = record {
    table = w.table;
    within = within;
    small = let size = left_size span inner ((span, inner) ∷ left) left refl in omega (arith, w.small, size);
    rise = span_rise span inner (branches_of_spans left) w.rise;
    among = λ s t f. w.among s t (span_later s span inner t (branches_of_spans left) w.rise f);
    left = λ s t d f. ⊎_elim (λ h. inl (kept s h))
        (λ g. ⊎_elim (λ k. inl (new s t (span_asked not_allowed tree inner span (branches_of_spans left) next found w s t k d) k)) (λ k. inr k) (span_either s span inner t (branches_of_spans left) g)) (w.left s t d f);
    behind = behind;
    lists = extended_by not_allowed tree (IsDone (branches_of_span span inner (branches_of_spans left)) next) (IsDone (branches_of_spans left) later) (IsGapBelow (row_of tree) (branches_of_span span inner none))
        found ys w.lists adds kept up cover (span_order not_allowed tree inner span (branches_of_spans left) next found w);
  }

-- of elements that are alike the first one is reached
run_reached :
    (not_allowed : Bool) (tree inner : Tree Row) (more : ℕ) (rest : Children Row) (next number : ℕ) (found : List Gap)
    → IsOver not_allowed tree (alike_elements number more inner rest) next found → number < least_at (row_of tree)
    → IsOver not_allowed tree (alike_elements number more inner rest) number (found ++ free_elements next (number - next))
run_reached not_allowed tree inner zero rest next number found w d = reached not_allowed tree inner rest next number found w d
run_reached not_allowed tree inner (suc more) rest next number found w d = reached not_allowed tree inner (alike_elements (suc number) more inner rest) next number found w d

-- elements of their own are before the rest
run_within :
    (not_allowed : Bool) (tree inner : Tree Row) (first more : ℕ) (rest : Children Row) (next number : ℕ) (found : List Gap)
    → IsOver not_allowed tree (alike_elements first more inner rest) next found → first ≤ number → number ≤ first + more → number < least_at (row_of tree)
    → number < rest_from (rest_below tree) (least_at (row_of tree))
run_within not_allowed tree inner first more rest next number found w l m d =
    up_to_end (rest_below tree) (least_at (row_of tree)) number d (own_before tree inner number w.table (w.among (index number) inner (alike_at first more number inner rest l m)))

pub nat_lt_is : (m n : ℕ) → m < n → nat_lt m n ≡ true
nat_lt_is m n h = grind (arith, nat_tests)

pub nat_lt_not : (m n : ℕ) → n ≤ m → nat_lt m n ≡ false
nat_lt_not m n h = grind (arith, nat_tests)

-- all elements up to the last one of a span are before what stands behind it
pub up_to_last : (n first more : ℕ) (inner : Tree Row) (others : Children Row) → AreBranches (IsRowKept RefusesAsked IsRow) (alike_elements first more inner others) → n ≤ first + more → IsStepBelowAll (index n) others
up_to_last n first more inner others rise h = ⊎_elim
    (λ e. subst (λ k. IsStepBelowAll (index k) others) (sym e) (last_below first more inner others rise))
    (λ k. below_further (index n) (index (first + more)) others (less_index n (first + more) k) (last_below first more inner others rise))
    (eq-or-lt_of_le {n = n} {m = first + more} h)

-- where the walk is once the free elements before a span are found
abbrev pub reach_of : ℕ → ℕ → Span → ℕ
reach_of next least (field text) = next
reach_of next least (elements first more) = if nat_lt first least then first else next

pub span_reached :
    (not_allowed : Bool) (tree inner : Tree Row) (span : Span) (others : Children Row) (next : ℕ) (found : List Gap) → IsOver not_allowed tree (branches_of_span span inner others) next found
    → IsOver not_allowed tree (branches_of_span span inner others) (reach_of next (least_at (row_of tree)) span) (found ++ free_before next (least_at (row_of tree)) span)
span_reached not_allowed tree inner (field text) others next found w = subst (λ xs. IsOver not_allowed tree (child (label text) inner others) next xs) (sym (append-nil found)) w
span_reached not_allowed tree inner (elements first more) others next found w = elim (cases_lt first (least_at (row_of tree))) [
  | inl low ↦
      subst (λ b. IsOver not_allowed tree (alike_elements first more inner others) (if b then first else next) (found ++ (if b then free_elements next (first - next) else [])))
      (sym (nat_lt_is first (least_at (row_of tree)) low)) (run_reached not_allowed tree inner more others next first found w low)
  | inr high ↦
      subst (λ b. IsOver not_allowed tree (alike_elements first more inner others) (if b then first else next) (found ++ (if b then free_elements next (first - next) else [])))
      (sym (nat_lt_not first (least_at (row_of tree)) high)) (subst (λ xs. IsOver not_allowed tree (alike_elements first more inner others) next xs) (sym (append-nil found)) w)
]

-- the next branches that are kept as one were looked at, and the free elements before them
span_walked :
    (not_allowed : Bool) (tree inner : Tree Row) (span : Span) (left : List (Span × Tree Row)) (next later : ℕ) (found ys : List Gap)
    → IsOver not_allowed tree (branches_of_span span inner (branches_of_spans left)) (reach_of next (least_at (row_of tree)) span) found
    → later ≡ next_after next (least_at (row_of tree)) span → Lists place_of (IsGapBelow (row_of tree) (branches_of_span span inner none)) ys
    → IsOver not_allowed tree (branches_of_spans left) later (found ++ ys)
span_walked not_allowed tree inner (field text) left next later found ys w l adds =
    subst (λ k. IsOver not_allowed tree (branches_of_spans left) k (found ++ ys)) (sym l)
    (looked_at not_allowed tree inner (field text) left next next found ys w adds (omega arith) w.within (λ n h. (w.behind n h).1) new (λ n h. inl h))
  where
    new : (s : paths.Step) (t : Tree Row) → is_demanded (row_of tree) s (row_of t) ≡ true → find s (child (label text) inner none) ≡ Some t → IsDone (branches_of_spans left) next s
    new s t d g = subst (IsDone (branches_of_spans left) next) (sym (only_branch s (label text) inner t g).0) w.rise.0
span_walked not_allowed tree inner (elements first more) left next later found ys w l adds = elim (cases_lt first (least_at (row_of tree))) [
  | inl low ↦ demanded low
  | inr high ↦ passed high
] where
  behind : (n : ℕ) → n ≤ first + more → IsStepBelowAll (index n) (branches_of_spans left)
  behind n h = up_to_last n first more inner (branches_of_spans left) w.rise h

  demanded : first < least_at (row_of tree) → IsOver not_allowed tree (branches_of_spans left) later (found ++ ys)
  demanded low =
      let is : nat_lt first (least_at (row_of tree)) ≡ true = nat_lt_is first (least_at (row_of tree)) low in
      let last : later ≡ min (least_at (row_of tree)) (first + more + 1) = l ∙ ap (λ b. if b then min (least_at (row_of tree)) (first + more + 1) else next) is in
      let here : IsOver not_allowed tree (alike_elements first more inner (branches_of_spans left)) first found =
      subst (λ b. IsOver not_allowed tree (alike_elements first more inner (branches_of_spans left)) (if b then first else next) found) is w in
      looked_at not_allowed tree inner (elements first more) left first later found ys here adds
      (omega arith) (let own_end = run_within not_allowed tree inner first more (branches_of_spans left) first (later - 1) found here (omega arith) (omega arith) (omega arith) in omega (arith, own_end, last, low))
      (λ n h. behind n (omega (arith, last, h)))
      (λ s t d g. let at = alike_is s first more inner t g in
      subst (IsDone (branches_of_spans left) later) (sym at.is) (let long = is_below (row_of tree) at.number (subst (λ u. is_demanded (row_of tree) u (row_of t) ≡ true) at.is d) in omega (arith, last, long, at.most)))
      (λ n h. elim (cases_lt n first) [
        | inl k ↦ inl k
        | inr k ↦ inr (inner, alike_at first more n inner none k (omega (arith, last, h)))
      ])

  passed : least_at (row_of tree) ≤ first → IsOver not_allowed tree (branches_of_spans left) later (found ++ ys)
  passed high =
      let is : nat_lt first (least_at (row_of tree)) ≡ false = nat_lt_not first (least_at (row_of tree)) high in
      let last : later ≡ next = l ∙ ap (λ b. if b then min (least_at (row_of tree)) (first + more + 1) else next) is in
      let here : IsOver not_allowed tree (alike_elements first more inner (branches_of_spans left)) next found =
      subst (λ b. IsOver not_allowed tree (alike_elements first more inner (branches_of_spans left)) (if b then first else next) found) is w in
      subst (λ k. IsOver not_allowed tree (branches_of_spans left) k (found ++ ys)) (sym last)
      (looked_at not_allowed tree inner (elements first more) left next next found ys here adds
      (omega arith) here.within (λ n h. span_below (index n) (elements first more) inner (branches_of_spans left) (here.behind n h))
      (λ s t d g. let at = alike_is s first more inner t g in
      absurd (let long = is_below (row_of tree) at.number (subst (λ u. is_demanded (row_of tree) u (row_of t) ≡ true) at.is d) in let no : ⊥ = omega (arith, high, long, at.least) in no))
      (λ n h. inl h))

pub walked_span :
    (not_allowed : Bool) (tree inner : Tree Row) (span : Span) (left : List (Span × Tree Row)) (next later : ℕ) (found ys : List Gap) → IsOver not_allowed tree (branches_of_span span inner (branches_of_spans left)) next found
    → later ≡ next_after next (least_at (row_of tree)) span → Lists place_of (IsGapBelow (row_of tree) (branches_of_span span inner none)) ys
    → IsOver not_allowed tree (branches_of_spans left) later ((found ++ free_before next (least_at (row_of tree)) span) ++ ys)
walked_span not_allowed tree inner span left next later found ys w l adds =
    span_walked not_allowed tree inner span left next later (found ++ free_before next (least_at (row_of tree)) span) ys (span_reached not_allowed tree inner span (branches_of_spans left) next found w) l adds
