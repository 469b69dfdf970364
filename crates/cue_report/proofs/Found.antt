-- The conflicts that a search finds are those of the table.
use Rattle.std.proofs.Common.{◌≡◌, ◌↔◌, ◌⊎◌, inl, inr, ⊎_elim, ℕ, ◌-◌, ◌<◌, ◌≤◌, arith, Bool, true, false, ◌||◌, List, [], ◌∷◌, ◌++◌, map, Option, None, Some, refl, sym, ap, subst, ◌∙◌}
use Rattle.std.specs.Bool.{IsTrue}
use Rattle.std.specs.List.{AllByRecursion, flat_map}
use Rattle.std.specs.declared.cmp.Ordering.{Ordering}
use Rattle.std.specs.declared.cmp.Ordering.TheVariants.{Less, Equal, Greater}
use Rattle.cue_lattice.specs.OneOf.{OneOf}
use Rattle.cue_lattice.specs.Path as paths
use Rattle.cue_lattice.specs.Path.{label, index, step_cmp, Path}
use Rattle.cue_lattice.specs.Question.{level_at_most}
use Rattle.cue_row.specs.declared.parts.RowParts.{RowParts as Row}
use Rattle.cue_row.specs.Row.{RefusesAsked, IsRow}
use Rattle.cue_table.specs.Form as form
use Rattle.cue_table.specs.Form.{AreBranches, AreWithinDepth, IsStepBelowAll, IsRowKept, IsRestOf, IsTable}
use Rattle.cue_table.specs.Tree.{Tree, node, Children, none, child, Rest, no_rest, onward, row_of, rest_below, if_equal, find, step_into}
use Rattle.cue_report.specs.Answers.{IsDemanded, HasNoValue, IsNotAllowed}
use Rattle.cue_report.specs.Inner.GapSearch.{IsBarred}
use Rattle.cue_report.specs.Listing.{IsConflict, AreConflicts, IsRising}
use Rattle.cue_report.specs.Inner.Search.{conflict_under, conflicts_under, only_if, has_no_value, is_demanded, is_refused, conflict_here, conflicts_in, conflicts_below, conflicts_onward, each_index, least_at}
use Rattle.cue_report.specs.declared.conflict.Conflict.{Conflict}
use Rattle.cue_report.proofs.Empty.{same_truth}
use Rattle.cue_report.proofs.Elements.{place_of, less_index, each_all, each_one, each_behind, each_below, each_rising}
use Rattle.cue_report.proofs.Rests.{own, at_rest, IsBefore, into_cases}
use Rattle.cue_report.proofs.Rows.{NoValueAt, no_value_is, index_allowed, is_below, is_long}
use Rattle.cue_report.proofs.OneList.{one_list}
use Rattle.cue_report.proofs.Order.{reverse_cmp, same_step, equal_steps, all_append, all_map, all_from, one_left, one_right, one_map, AreBefore, AreBehind, rising_append, rising_lifted, lifted_before, lifted_behind}
use Rattle.cue_report.proofs.Texts.{listed}
use Rattle.cue_report.proofs.Descent.{Told, open_below, row_below, seen, demanded_down, demanded_up, barred_below, first_demanded, at_root}

-- a conflict at a place of a tree, of which the place above refuses the label or not
pub record IsConflictIn (not_allowed : Bool) (tree : Tree Row) (conflict : Conflict) : Type 0 where
  pub demanded : IsDemanded (Told tree) conflict.path
  pub no_value : IsTrue conflict.no_value ↔ HasNoValue (Told tree) conflict.path
  pub barred : IsTrue conflict.not_allowed ↔ IsBarred not_allowed (Told tree) conflict.path
  pub cause : IsTrue (conflict.no_value || conflict.not_allowed)

abbrev both_ways : {A B C : Type 0} → A ↔ B → B ↔ C → A ↔ C
both_ways e f = (λ a. f.0 (e.0 a), λ c. e.1 (f.1 c))

-- what the rows below a branch say of values
value_below : (tree inner : Tree Row) (step : paths.Step) (path : Path) → step_into tree step ≡ Some inner → HasNoValue (Told tree) (step ∷ path) ↔ HasNoValue (Told inner) path
value_below tree inner step path f =
    let same = row_below tree inner step path f in
    (λ h. subst NoValueAt same h, λ h. subst NoValueAt (sym same) h)

-- a conflict of a branch is one of the tree
conflict_up :
    (not_allowed : Bool) (tree inner : Tree Row) (step : paths.Step) (conflict : Conflict) → step_into tree step ≡ Some inner
    → is_demanded (row_of tree) step (row_of inner) ≡ true → IsConflictIn (is_refused (row_of tree) step) inner conflict
    → IsConflictIn not_allowed tree (conflict_under (step ∷ []) conflict)
conflict_up not_allowed tree inner step conflict f d h = record {
  demanded = demanded_up tree inner step (seen tree inner step f) conflict.path ((first_demanded tree inner step (seen tree inner step f)).0 d) h.demanded;
  no_value = let same = value_below tree inner step conflict.path f in both_ways h.no_value (same.1, same.0);
  barred = both_ways h.barred (barred_below tree inner step conflict.path (seen tree inner step f));
  cause = h.cause;
}

-- and the other way round
conflict_down :
    (not_allowed : Bool) (tree inner : Tree Row) (step : paths.Step) (conflict : Conflict) (path : Path) → conflict.path ≡ step ∷ path → step_into tree step ≡ Some inner
    → IsConflictIn not_allowed tree conflict
    → (is_demanded (row_of tree) step (row_of inner) ≡ true) × IsConflictIn (is_refused (row_of tree) step) inner (record conflict { path = path })
conflict_down not_allowed tree inner step conflict path e f h =
    let demanded : IsDemanded (Told tree) (step ∷ path) = subst (IsDemanded (Told tree)) e h.demanded in
    let value : IsTrue conflict.no_value ↔ HasNoValue (Told tree) (step ∷ path) = subst (λ p. IsTrue conflict.no_value ↔ HasNoValue (Told tree) p) e h.no_value in
    let barred : IsTrue conflict.not_allowed ↔ IsNotAllowed (Told tree) (step ∷ path) = subst (λ p. IsTrue conflict.not_allowed ↔ IsBarred not_allowed (Told tree) p) e h.barred in
    let same = barred_below tree inner step path (seen tree inner step f) in (
      (first_demanded tree inner step (seen tree inner step f)).1 (demanded [] path step refl),
      record {
        demanded = demanded_down tree inner step (seen tree inner step f) path demanded;
        no_value = both_ways value (value_below tree inner step path f);
        barred = both_ways barred (same.1, same.0);
        cause = h.cause;
      },
    )

-- where no branch is, there is no conflict
either : (a b : Bool) → (a || b) ≡ true → (a ≡ true) ⊎ (b ≡ true)
either true b h = inl refl
either false b h = inr h

conflict_stands : (not_allowed : Bool) (tree : Tree Row) (step : paths.Step) (conflict : Conflict) (path : Path) → conflict.path ≡ step ∷ path → step_into tree step ≡ None → IsConflictIn not_allowed tree conflict → ⊥
conflict_stands not_allowed tree step conflict path e f h =
    let demanded : IsDemanded (Told tree) (step ∷ path) = subst (IsDemanded (Told tree)) e h.demanded in
    let value : IsTrue conflict.no_value → HasNoValue (Told tree) (step ∷ path) = subst (λ p. IsTrue conflict.no_value → HasNoValue (Told tree) p) e h.no_value.0 in
    let barred : IsTrue conflict.not_allowed → IsNotAllowed (Told tree) (step ∷ path) = subst (λ p. IsTrue conflict.not_allowed → IsBarred not_allowed (Told tree) p) e h.barred.0 in
    ⊎_elim (λ v. no_value (value v)) (λ b. not_there demanded (barred b)) (either conflict.no_value conflict.not_allowed h.cause)
  where
    no_value : HasNoValue (Told tree) (step ∷ path) → ⊥
    no_value (inl n) = open_below tree step path _ f n.1
    no_value (inr n) = ⊎_elim (λ r. open_below tree step path _ f r) (λ r. open_below tree step path _ f r) (n.1 0)

    not_there : IsDemanded (Told tree) (step ∷ path) → IsNotAllowed (Told tree) (step ∷ path) → ⊥
    not_there d (above, text, g, r) =
        let P : Path → Type 0 = λ p. Told tree p (level_at_most 0) in
        open_below tree step path (level_at_most 0) f (subst P (sym g) (d above [] (label text) g))

-- ---- at the place itself
here_sound : (not_allowed : Bool) (tree : Tree Row) → form.IsTableRow IsRow (row_of tree) → AllByRecursion (IsConflictIn not_allowed tree) (conflict_here (has_no_value (row_of tree)) not_allowed)
here_sound not_allowed tree r = cases (has_no_value (row_of tree) || not_allowed) refl where
  none_before : (before after : Path) (step : paths.Step) → [] ≡ before ++ step ∷ after → ⊥
  none_before [] after step e = cc
  none_before (x ∷ before) after step e = cc

  cases : (b : Bool) → (has_no_value (row_of tree) || not_allowed) ≡ b → AllByRecursion (IsConflictIn not_allowed tree) (only_if b (record { path = []; no_value = has_no_value (row_of tree); not_allowed = not_allowed } ∷ []))
  cases false e = tt
  cases true e = (
    record {
      demanded = λ before after step g. absurd (none_before before after step g);
      no_value = value tree r;
      barred = (λ h. h, λ h. h);
      cause = e;
    },
    tt,
  ) where
    value : (t : Tree Row) → form.IsTableRow IsRow (row_of t) → IsTrue (has_no_value (row_of t)) ↔ HasNoValue (Told t) []
    value (node row children rest) r = no_value_is row r

here_complete :
    (not_allowed : Bool) (tree : Tree Row) (conflict : Conflict) → form.IsTableRow IsRow (row_of tree) → conflict.path ≡ [] → IsConflictIn not_allowed tree conflict
    → OneOf (λ y. y ≡ conflict) (conflict_here (has_no_value (row_of tree)) not_allowed)
here_complete not_allowed (node row children rest) conflict r e h =
    let value : IsTrue conflict.no_value ↔ NoValueAt row = subst (λ p. IsTrue conflict.no_value ↔ HasNoValue (Told (node row children rest)) p) e h.no_value in
    let barred : IsTrue conflict.not_allowed ↔ IsTrue not_allowed = subst (λ p. IsTrue conflict.not_allowed ↔ IsBarred not_allowed (Told (node row children rest)) p) e h.barred in
    let is = no_value_is row r in
    let v : has_no_value row ≡ conflict.no_value = same_truth _ _ (λ b. value.1 (is.0 b)) (λ b. is.1 (value.0 b)) in
    let a : not_allowed ≡ conflict.not_allowed = same_truth _ _ (λ b. barred.1 b) (λ b. barred.0 b) in
    let same : conflict ≡ conflict = refl in
    subst (λ b. OneOf (λ y. y ≡ conflict) (only_if b (record { path = []; no_value = has_no_value row; not_allowed = not_allowed } ∷ []))) (sym (ap (λ b. b || not_allowed) v ∙ ap (λ b. conflict.no_value || b) a ∙ h.cause))
    (inl (λ i. record { path = sym e i; no_value = v i; not_allowed = a i }))

-- ---- below it
row_form : (tree : Tree Row) → IsTable RefusesAsked IsRow tree → form.IsTableRow IsRow (row_of tree)
row_form (node None children rest) h = tt
row_form (node (Some row) children rest) h = h.0.0

pub found_first : (step : paths.Step) (tree : Tree Row) (children : Children Row) → find step (child step tree children) ≡ Some tree
found_first step tree children = ap (λ o. if_equal o tree (find step children)) (same_step step)

-- a step below all branches is below that of each
pub below_found : (next step : paths.Step) (tree : Tree Row) (children : Children Row) → IsStepBelowAll next children → find step children ≡ Some tree → step_cmp next step ≡ Less
below_found next step tree none b f = cc
below_found next step tree (child s t cs) b f = take (step_cmp step s) refl f (λ g. below_found next step tree cs b.1 g) where
  take : (o : Ordering) → step_cmp step s ≡ o → if_equal o t (find step cs) ≡ Some tree → (find step cs ≡ Some tree → step_cmp next step ≡ Less) → step_cmp next step ≡ Less
  take Less e g k = k g
  take Equal e g k = subst (λ x. step_cmp next x ≡ Less) (sym (equal_steps step s e)) b.0
  take Greater e g k = k g

-- a branch further on is found too
pub found_later : (next step : paths.Step) (here tree : Tree Row) (children : Children Row) → IsStepBelowAll next children → find step children ≡ Some tree → find step (child next here children) ≡ Some tree
found_later next step here tree children b f = ap (λ o. if_equal o here (find step children)) (reverse_cmp next step Less (below_found next step tree children b f)) ∙ f

-- which branches of a tree these are
abbrev pub AreAmong : Tree Row → Children Row → Type 0
AreAmong whole children = (step : paths.Step) (inner : Tree Row) → find step children ≡ Some inner → step_into whole step ≡ Some inner

mutual
  sound_in : (not_allowed : Bool) (tree : Tree Row) → IsTable RefusesAsked IsRow tree → AllByRecursion (IsConflictIn not_allowed tree) (conflicts_in not_allowed tree)
  sound_in not_allowed (node row children rest) h =
      all_append (IsConflictIn not_allowed (node row children rest)) (conflict_here (has_no_value row) not_allowed) (conflicts_below row children ++ conflicts_onward row rest)
      (here_sound not_allowed (node row children rest) (row_form (node row children rest) h))
      (all_append (IsConflictIn not_allowed (node row children rest)) (conflicts_below row children) (conflicts_onward row rest)
      (sound_below not_allowed (node row children rest) children h.1 (λ step inner f. own (node row children rest) inner step h f))
      (sound_onward not_allowed (node row children rest) children rest h.2 refl))

  sound_below :
      (not_allowed : Bool) (whole : Tree Row) (children : Children Row) → AreBranches (IsRowKept RefusesAsked IsRow) children → AreAmong whole children
      → AllByRecursion (IsConflictIn not_allowed whole) (conflicts_below (row_of whole) children)
  sound_below not_allowed whole none h m = tt
  sound_below not_allowed whole (child step tree children) h m =
      let inner : List Conflict = conflicts_in (is_refused (row_of whole) step) tree in
      let found : step_into whole step ≡ Some tree = m step tree (found_first step tree children) in
      let first : AllByRecursion (IsConflictIn not_allowed whole) (only_if (is_demanded (row_of whole) step (row_of tree)) (map (conflict_under (step ∷ [])) inner)) =
      only_when (is_demanded (row_of whole) step (row_of tree)) (map (conflict_under (step ∷ [])) inner) (λ d.
      all_map (IsConflictIn (is_refused (row_of whole) step) tree) (IsConflictIn not_allowed whole) (conflict_under (step ∷ [])) inner
      (λ conflict k. conflict_up not_allowed whole tree step conflict found d k) (sound_in (is_refused (row_of whole) step) tree h.2)) in
      all_append (IsConflictIn not_allowed whole) (only_if (is_demanded (row_of whole) step (row_of tree)) (map (conflict_under (step ∷ [])) inner)) (conflicts_below (row_of whole) children)
      first (sound_below not_allowed whole children h.3 (λ next branch f. m next branch (found_later step next tree branch children h.0 f)))
    where
      only_when : (b : Bool) (xs : List Conflict) → (b ≡ true → AllByRecursion (IsConflictIn not_allowed whole) xs) → AllByRecursion (IsConflictIn not_allowed whole) (only_if b xs)
      only_when true xs k = k refl
      only_when false xs k = tt

  sound_onward :
      (not_allowed : Bool) (whole : Tree Row) (children : Children Row) (rest : Rest Row) → IsRestOf (IsRowKept RefusesAsked IsRow) children rest → rest_below whole ≡ rest
      → AllByRecursion (IsConflictIn not_allowed whole) (conflicts_onward (row_of whole) rest)
  sound_onward not_allowed whole children no_rest h e = tt
  sound_onward not_allowed whole children (onward n tree) h e =
      let least : ℕ = least_at (row_of whole) in
      each_all (IsConflictIn false tree) (IsConflictIn not_allowed whole) n (least - n) (conflicts_in false tree)
      (λ i l m conflict k. conflict_up not_allowed whole tree (index i) conflict (at_rest whole tree n i e l) (is_long (row_of whole) i (omega arith))
      (subst (λ b. IsConflictIn b tree conflict) (sym (index_allowed (row_of whole) i)) k)) (sound_in false tree h.3)

-- ---- all are found
pub found_cases : {X : Type 0} (o : Option X) → (o ≡ None) ⊎ ((x : X) × (o ≡ Some x))
found_cases None = inl refl
found_cases (Some x) = inr (x, refl)

only_one : (b : Bool) (P : Conflict → Type 0) (xs : List Conflict) → b ≡ true → OneOf P xs → OneOf P (only_if b xs)
only_one b P xs e h = subst (λ c. OneOf P (only_if c xs)) (sym e) h

-- the conflict stands at the first branch or at a later one
taken :
    (row : Option Row) (next : paths.Step) (tree : Tree Row) (children : Children Row) (step : paths.Step) (inner : Tree Row) (conflict : Conflict) (o : Ordering)
    → step_cmp step next ≡ o → if_equal o tree (find step children) ≡ Some inner
    → is_demanded row step (row_of inner) ≡ true → IsConflictIn (is_refused row step) inner conflict
    → (find step children ≡ Some inner → OneOf (λ y. y ≡ conflict_under (step ∷ []) conflict) (conflicts_below row children))
    → (IsConflictIn (is_refused row next) tree conflict → OneOf (λ y. y ≡ conflict) (conflicts_in (is_refused row next) tree))
    → OneOf (λ y. y ≡ conflict_under (step ∷ []) conflict) (conflicts_below row (child next tree children))
taken row next tree children step inner conflict Less e g d k later first =
    one_right (λ y. y ≡ conflict_under (step ∷ []) conflict) (only_if (is_demanded row next (row_of tree)) (map (conflict_under (next ∷ [])) (conflicts_in (is_refused row next) tree)))
    (conflicts_below row children) (later g)
taken row next tree children step inner conflict Greater e g d k later first =
    one_right (λ y. y ≡ conflict_under (step ∷ []) conflict) (only_if (is_demanded row next (row_of tree)) (map (conflict_under (next ∷ [])) (conflicts_in (is_refused row next) tree)))
    (conflicts_below row children) (later g)
taken row next tree children step inner conflict Equal e g d k later first =
    let same : step ≡ next = equal_steps step next e in
    let tree_is : inner ≡ tree = cc in
    let asked : is_demanded row next (row_of tree) ≡ true = subst (λ s. is_demanded row s (row_of tree) ≡ true) same (subst (λ t. is_demanded row step (row_of t) ≡ true) tree_is d) in
    let inside : IsConflictIn (is_refused row next) tree conflict = subst (λ s. IsConflictIn (is_refused row s) tree conflict) same (subst (λ t. IsConflictIn (is_refused row step) t conflict) tree_is k) in
    let found : List Conflict = conflicts_in (is_refused row next) tree in
    one_left (λ y. y ≡ conflict_under (step ∷ []) conflict) (only_if (is_demanded row next (row_of tree)) (map (conflict_under (next ∷ [])) found)) (conflicts_below row children)
    (only_one (is_demanded row next (row_of tree)) (λ y. y ≡ conflict_under (step ∷ []) conflict) (map (conflict_under (next ∷ [])) found) asked
    (subst (λ s. OneOf (λ y. y ≡ conflict_under (s ∷ []) conflict) (map (conflict_under (next ∷ [])) found)) (sym same)
    (one_map (λ y. y ≡ conflict) (λ y. y ≡ conflict_under (next ∷ []) conflict) (conflict_under (next ∷ [])) found (λ y f. ap (conflict_under (next ∷ [])) f) (first inside))))

mutual
  complete_in : (not_allowed : Bool) (tree : Tree Row) (conflict : Conflict) (path : Path) → conflict.path ≡ path → IsTable RefusesAsked IsRow tree → IsConflictIn not_allowed tree conflict → OneOf (λ y. y ≡ conflict) (conflicts_in not_allowed tree)
  complete_in not_allowed (node row children rest) conflict [] e h k =
      one_left (λ y. y ≡ conflict) (conflict_here (has_no_value row) not_allowed) (conflicts_below row children ++ conflicts_onward row rest)
      (here_complete not_allowed (node row children rest) conflict (row_form (node row children rest) h) e k)
  complete_in not_allowed (node row children rest) conflict (step ∷ path) e h k =
      ⊎_elim (λ f. absurd (conflict_stands not_allowed (node row children rest) step conflict path e f k)) (λ found.
      let below_it = conflict_down not_allowed (node row children rest) found.0 step conflict path e found.1 k in
      one_right (λ y. y ≡ conflict) (conflict_here (has_no_value row) not_allowed) (conflicts_below row children ++ conflicts_onward row rest)
      (subst (λ p. OneOf (λ y. y ≡ record conflict { path = p }) (conflicts_below row children ++ conflicts_onward row rest)) (sym e)
      (into_cases (node row children rest) found.0 step (OneOf (λ y. y ≡ conflict_under (step ∷ []) (record conflict { path = path })) (conflicts_below row children ++ conflicts_onward row rest)) found.1
      (λ g. one_left (λ y. y ≡ conflict_under (step ∷ []) (record conflict { path = path })) (conflicts_below row children) (conflicts_onward row rest)
      (complete_below row children step found.0 (record conflict { path = path }) h.1 g below_it.0 below_it.1))
      (λ n i is r l. one_right (λ y. y ≡ conflict_under (step ∷ []) (record conflict { path = path })) (conflicts_below row children) (conflicts_onward row rest)
      (complete_onward row children rest step n i found.0 (record conflict { path = path }) h.2 is r l below_it.0 below_it.1)))))
      (found_cases (step_into (node row children rest) step))

  complete_onward :
      (row : Option Row) (children : Children Row) (rest : Rest Row) (step : paths.Step) (n i : ℕ) (inner : Tree Row) (conflict : Conflict) → IsRestOf (IsRowKept RefusesAsked IsRow) children rest
      → step ≡ index i → rest ≡ onward n inner → n ≤ i → is_demanded row step (row_of inner) ≡ true → IsConflictIn (is_refused row step) inner conflict
      → OneOf (λ y. y ≡ conflict_under (step ∷ []) conflict) (conflicts_onward row rest)
  complete_onward row children no_rest step n i inner conflict h is e l d k = cc
  complete_onward row children (onward number tree) step n i inner conflict h is e l d k =
      let from : number ≡ n = cc in
      let same : inner ≡ tree = cc in
      let low : i < least_at row = is_below row i (subst (λ s. is_demanded row s (row_of inner) ≡ true) is d) in
      let inside : IsConflictIn (is_refused row (index i)) inner conflict = subst (λ s. IsConflictIn (is_refused row s) inner conflict) is k in
      subst (λ s. OneOf (λ y. y ≡ conflict_under (s ∷ []) conflict) (each_index number (least_at row - number) (conflicts_in false tree))) (sym is)
      (each_one number (least_at row - number) i (conflicts_in false tree) conflict (omega arith) (omega arith)
      (complete_in false tree conflict conflict.path refl h.3 (subst (λ t. IsConflictIn false t conflict) same (subst (λ b. IsConflictIn b inner conflict) (index_allowed row i) inside))))

  complete_below :
      (row : Option Row) (children : Children Row) (step : paths.Step) (inner : Tree Row) (conflict : Conflict) → AreBranches (IsRowKept RefusesAsked IsRow) children
      → find step children ≡ Some inner → is_demanded row step (row_of inner) ≡ true → IsConflictIn (is_refused row step) inner conflict
      → OneOf (λ y. y ≡ conflict_under (step ∷ []) conflict) (conflicts_below row children)
  complete_below row none step inner conflict h f d k = cc
  complete_below row (child next tree children) step inner conflict h f d k =
      taken row next tree children step inner conflict (step_cmp step next) refl f d k
      (λ g. complete_below row children step inner conflict h.3 g d k)
      (λ inside. complete_in (is_refused row next) tree conflict conflict.path refl h.2 inside)

-- ---- in the order of their paths
below_behind : (low : paths.Step) (row : Option Row) (children : Children Row) → IsStepBelowAll low children → AreBehind place_of low (conflicts_below row children)
below_behind low row none h = tt
below_behind low row (child step tree children) h =
    all_append _ (only_if (is_demanded row step (row_of tree)) (map (conflict_under (step ∷ [])) (conflicts_in (is_refused row step) tree))) (conflicts_below row children)
    (when (is_demanded row step (row_of tree)) (map (conflict_under (step ∷ [])) (conflicts_in (is_refused row step) tree))
    (lifted_behind place_of (conflict_under (step ∷ [])) step (λ x. refl) low (conflicts_in (is_refused row step) tree) h.0))
    (below_behind low row children h.1)
  where
    when : (b : Bool) (xs : List Conflict) → AreBehind place_of low xs → AreBehind place_of low (only_if b xs)
    when true xs k = k
    when false xs k = tt

-- the path of the place itself is before all below
root_first : (row : Option Row) (children : Children Row) → AllByRecursion (λ y. paths.path_cmp [] (place_of y) ≡ Less) (conflicts_below row children)
root_first row none = tt
root_first row (child step tree children) =
    all_append _ (only_if (is_demanded row step (row_of tree)) (map (conflict_under (step ∷ [])) (conflicts_in (is_refused row step) tree))) (conflicts_below row children)
    (when (is_demanded row step (row_of tree)) (conflicts_in (is_refused row step) tree)) (root_first row children)
  where
    each : (xs : List Conflict) → AllByRecursion (λ y. paths.path_cmp [] (place_of y) ≡ Less) (map (conflict_under (step ∷ [])) xs)
    each [] = tt
    each (x ∷ xs) = (refl, each xs)

    when : (b : Bool) (xs : List Conflict) → AllByRecursion (λ y. paths.path_cmp [] (place_of y) ≡ Less) (only_if b (map (conflict_under (step ∷ [])) xs))
    when true xs = each xs
    when false xs = tt

-- the conflicts of the rest stand behind those of what stands before it
abbrev StandsBefore : paths.Step → Rest Row → Type 0
StandsBefore (label text) rest = Unit {0}
StandsBefore (index i) rest = IsBefore i rest

onward_behind : (step : paths.Step) (row : Option Row) (rest : Rest Row) → StandsBefore step rest → AreBehind place_of step (conflicts_onward row rest)
onward_behind step row no_rest h = tt
onward_behind step row (onward n tree) h = each_behind step n (least_at row - n) (conflicts_in false tree) (before step h)
  where
    before : (s : paths.Step) → StandsBefore s (onward n tree) → (i : ℕ) → n ≤ i → step_cmp s (index i) ≡ Less
    before (label text) h i l = refl
    before (index j) h i l = let low : j < n = h in less_index j i (omega arith)

onward_below : (row : Option Row) (rest : Rest Row) → AllByRecursion (λ y. paths.path_cmp [] (place_of y) ≡ Less) (conflicts_onward row rest)
onward_below row no_rest = tt
onward_below row (onward n tree) = each_below n (least_at row - n) (conflicts_in false tree)

abbrev AreBeforeRest : Children Row → Rest Row → Type 0
AreBeforeRest none rest = Unit {0}
AreBeforeRest (child step tree children) rest = StandsBefore step rest × AreBeforeRest children rest

before_rest : (children : Children Row) (rest : Rest Row) → IsRestOf (IsRowKept RefusesAsked IsRow) children rest → AreBeforeRest children rest
before_rest children no_rest h = all children where
  all : (cs : Children Row) → AreBeforeRest cs no_rest
  all none = tt
  all (child (label text) tree cs) = (tt, all cs)
  all (child (index i) tree cs) = (tt, all cs)
before_rest children (onward n inner) h = all children h.0 where
  all : (cs : Children Row) → AreWithinDepth n cs → AreBeforeRest cs (onward n inner)
  all none w = tt
  all (child (label text) tree cs) w = (tt, all cs w)
  all (child (index i) tree cs) w = (w.0, all cs w.1)

below_before : (row : Option Row) (children : Children Row) (rest : Rest Row) → AreBeforeRest children rest → AreBefore place_of (conflicts_below row children) (conflicts_onward row rest)
below_before row none rest h = tt
below_before row (child step tree children) rest h =
    all_append _ (only_if (is_demanded row step (row_of tree)) (map (conflict_under (step ∷ [])) (conflicts_in (is_refused row step) tree))) (conflicts_below row children)
    (when (is_demanded row step (row_of tree)) (map (conflict_under (step ∷ [])) (conflicts_in (is_refused row step) tree))
    (lifted_before place_of (conflict_under (step ∷ [])) step (λ x. refl) (conflicts_in (is_refused row step) tree) (conflicts_onward row rest)
    (onward_behind step row rest h.0)))
    (below_before row children rest h.1)
  where
    when : (b : Bool) (xs : List Conflict) → AreBefore place_of xs (conflicts_onward row rest) → AreBefore place_of (only_if b xs) (conflicts_onward row rest)
    when true xs k = k
    when false xs k = tt

mutual
  rising_in : (not_allowed : Bool) (tree : Tree Row) → IsTable RefusesAsked IsRow tree → IsRising place_of (conflicts_in not_allowed tree)
  rising_in not_allowed (node row children rest) h =
      with_here (has_no_value row || not_allowed) (record { path = []; no_value = has_no_value row; not_allowed = not_allowed }) (conflicts_below row children ++ conflicts_onward row rest)
      refl
      (rising_append place_of (conflicts_below row children) (conflicts_onward row rest) (rising_below row children h.1) (rising_onward row children rest h.2)
      (below_before row children rest (before_rest children rest h.2)))
      (all_append _ (conflicts_below row children) (conflicts_onward row rest) (root_first row children) (onward_below row rest))
    where
      with_here : (b : Bool) (x : Conflict) (xs : List Conflict) → place_of x ≡ [] → IsRising place_of xs → AllByRecursion (λ y. paths.path_cmp [] (place_of y) ≡ Less) xs → IsRising place_of (only_if b (x ∷ []) ++ xs)
      with_here true x xs e k f = (subst (λ p. AllByRecursion (λ y. paths.path_cmp p (place_of y) ≡ Less) xs) (sym e) f, k)
      with_here false x xs e k f = k

  rising_onward : (row : Option Row) (children : Children Row) (rest : Rest Row) → IsRestOf (IsRowKept RefusesAsked IsRow) children rest → IsRising place_of (conflicts_onward row rest)
  rising_onward row children no_rest h = tt
  rising_onward row children (onward n tree) h = each_rising n (least_at row - n) (conflicts_in false tree) (rising_in false tree h.3)

  rising_below : (row : Option Row) (children : Children Row) → AreBranches (IsRowKept RefusesAsked IsRow) children → IsRising place_of (conflicts_below row children)
  rising_below row none h = tt
  rising_below row (child step tree children) h =
      joined (is_demanded row step (row_of tree)) (conflicts_in (is_refused row step) tree) (conflicts_below row children)
      (rising_in (is_refused row step) tree h.2) (rising_below row children h.3) (below_behind step row children h.0)
    where
      joined : (b : Bool) (xs ys : List Conflict) → IsRising place_of xs → IsRising place_of ys → AreBehind place_of step ys → IsRising place_of (only_if b (map (conflict_under (step ∷ [])) xs) ++ ys)
      joined true xs ys k l f =
          rising_append place_of (map (conflict_under (step ∷ [])) xs) ys (rising_lifted place_of (conflict_under (step ∷ [])) step (λ x. refl) xs k) l
          (lifted_before place_of (conflict_under (step ∷ [])) step (λ x. refl) xs ys f)
      joined false xs ys k l f = l

-- ---- the whole table
-- what a search from the root finds are the conflicts of the table
pub conflicts_found : (tree : Tree Row) → IsTable RefusesAsked IsRow tree → AreConflicts (Told tree) (conflicts_in false tree)
conflicts_found tree h = record {
  sound = all_from (IsConflictIn false tree) (IsConflict (Told tree)) (conflicts_in false tree)
      (λ x k. record { demanded = k.demanded; no_value = k.no_value; not_allowed = both_ways k.barred (at_root (Told tree) x.path); cause = k.cause })
      (sound_in false tree h);
  complete = λ x k. complete_in false tree x x.path refl h
      (let same = at_root (Told tree) x.path in record { demanded = k.demanded; no_value = k.no_value; barred = both_ways k.not_allowed (same.1, same.0); cause = k.cause });
  rising = rising_in false tree h;
}

-- the place of the root is the whole path
pub under_root : (xs : List Conflict) → map (conflict_under []) xs ≡ xs
under_root [] = refl
under_root (x ∷ xs) = ap (λ ys. x ∷ ys) (under_root xs)

pub root_told : {X : Type 0} (piece : Conflict → List X) (tree root : Tree Row) (path : Path) → root ≡ tree → path ≡ []
    → conflicts_under piece path (conflicts_in false root) ≡ flat_map piece (conflicts_in false tree)
root_told piece tree root path r p =
    ap (λ t. conflicts_under piece path (conflicts_in false t)) r ∙ ap (λ q. conflicts_under piece q (conflicts_in false tree)) p
    ∙ ap (flat_map piece) (under_root (conflicts_in false tree))

-- a search that began with nothing has listed these
pub from_nothing :
    (tree root : Tree Row) (before after : List Conflict) (path : Path) → IsTable RefusesAsked IsRow tree → root ≡ tree → before ≡ [] → path ≡ []
    → after ≡ before ++ conflicts_under (λ x. x ∷ []) path (conflicts_in false root) → AreConflicts (Told tree) after
from_nothing tree root before after path h r b p e =
    let found : after ≡ conflicts_in false tree =
    e ∙ ap (λ xs. before ++ xs) (root_told (λ x. x ∷ []) tree root path r p) ∙ ap (λ xs. xs ++ flat_map (λ x. x ∷ []) (conflicts_in false tree)) b
    ∙ listed (conflicts_in false tree) in
    subst (AreConflicts (Told tree)) (sym found) (conflicts_found tree h)

-- and there are no others
pub only_conflicts : (tree : Tree Row) → IsTable RefusesAsked IsRow tree → (found : List Conflict) → AreConflicts (Told tree) found → conflicts_in false tree ≡ found
only_conflicts tree h found are = one_list place_of (IsConflict (Told tree)) (IsConflict (Told tree)) (conflicts_in false tree) found (λ x p. p) (λ x p. p) (conflicts_found tree h) are
