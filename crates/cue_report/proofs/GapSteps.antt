-- A search for gaps on its way through a place: what it told, and how far it is.
use Rattle.std.proofs.Common.{◌≡◌, ◌⊎◌, inl, inr, ⊎_elim, ℕ, ◌+◌, ◌-◌, ◌<◌, ◌≤◌, min, Bool, true, false, List, [], ◌∷◌, ◌++◌, map, Option, Some, refl, sym, ap, subst, ◌∙◌, arith}
use Rattle.std.proofs.lemmas.Bool.{cases_lt}
use Rattle.std.proofs.Math.Nat.{eq-or-lt_of_le}
use Rattle.std.specs.List.{AllByRecursion}
use Rattle.std.specs.Ordering.{ordering_then}
use Rattle.std.specs.declared.cmp.Ordering.TheVariants.{Less}
use Rattle.cue_lattice.specs.OneOf.{OneOf}
use Rattle.cue_lattice.specs.Path as paths
use Rattle.cue_lattice.specs.Path.{index, step_cmp, Path, path_cmp}
use Rattle.cue_row.specs.declared.parts.RowParts.{RowParts as Row}
use Rattle.cue_row.specs.Row.{RefusesAsked, IsRow}
use Rattle.cue_table.specs.Form.{IsTable}
use Rattle.cue_table.specs.Spans.{Span, alike_elements, branches_of_span, branches_of_spans}
use Rattle.cue_table.specs.StepsOfCode.{step_at}
use Rattle.cue_table.specs.declared.step_ref.StepRef.{StepRef}
use Rattle.cue_table.specs.Tree.{Tree, Children, none, child, row_of, rest_below, rest_at, below}
use Rattle.cue_report.specs.Inner.GapSearch.{IsGapIn, IsGapHere, IsGapBelow, IsGapAmong, IsGapOnward, IsFront, WritesGapsPrefixWhere, WritesGapsWhere, gap_above, gaps_above, free_elements, free_before, next_after}
use Rattle.cue_report.specs.Listing.{Lists}
use Rattle.cue_report.specs.Inner.Search.{is_demanded, is_refused, least_at, rest_from}
use Rattle.cue_report.specs.Telling.{Tally}
use Rattle.cue_report.specs.Inner.Telling.{WritesPieces, WritesPiecesPrefix}
use Rattle.cue_report.specs.declared.gap.Gap.{Gap}
use Rattle.cue_report.proofs.FoundGaps.{place_of}
use Rattle.cue_report.proofs.GapFronts.{front_over, front_walked, front_ended, fronts_none, same_fronts}
use Rattle.cue_report.proofs.GapRests.{among_onward, among_more, among_last, element_before, freed_last, ended}
use Rattle.cue_report.proofs.GapRuns.{run_up, run_down, field_up, field_is}
use Rattle.cue_report.proofs.GapTelling.{found_more, found_later, pushed_is}
use Rattle.cue_report.proofs.GapWalk as walk
use Rattle.cue_report.proofs.GapWalk.{IsOver, less_index, span_reached}
use Rattle.cue_report.proofs.Order.{all_append, all_map, all_from, one_left, one_right, one_map, rising_append, rising_lifted, same_step}
use Rattle.cue_report.proofs.Walk.{pushed_on}

-- ---- at a place
pub record IsAlong {X : Type 0} (piece : Gap → List X) (not_allowed : Bool) (tree : Tree Row) (rest : Children Row) (next : ℕ) (start now : Tally X) (steps held : List StepRef) : Type 0 where
  pub same : held ≡ steps
  pub found : List Gap
  pub over : IsOver not_allowed tree rest next found
  pub told : WritesPieces start now (gaps_above piece (map step_at steps) found)

pub started :
    {X : Type 0} (piece : Gap → List X) (not_allowed : Bool) (tree : Tree Row) (start now : Tally X) (steps held : List StepRef) → IsTable RefusesAsked IsRow tree → held ≡ steps
    → WritesGapsWhere piece (IsGapHere not_allowed (row_of tree)) (map step_at steps) start now → IsAlong piece not_allowed tree (below tree) 0 start now steps held
started piece not_allowed tree start now steps held t e h = record { same = e; found = h.found; over = walk.started not_allowed tree h.found t h.lists; told = h.told }

-- the next span of branches, where a search is
module _
    {X : Type 0} (piece : Gap → List X) (not_allowed : Bool) (tree inner : Tree Row) (span : Span) (rest left : List (Span × Tree Row)) (next least : ℕ) (start now : Tally X)
    (steps held : List StepRef) (w : IsAlong piece not_allowed tree (branches_of_spans rest) next start now steps held) (e : rest ≡ (span, inner) ∷ left) (m : least ≡ least_at (row_of tree)) where
  here : IsOver not_allowed tree (branches_of_span span inner (branches_of_spans left)) next w.found
  here = subst (λ spans. IsOver not_allowed tree (branches_of_spans spans) next w.found) e w.over

  abbrev free : List Gap
  free = free_before next (least_at (row_of tree)) span

  -- the free elements before it were told, or some of them
  freed : (after : Tally X) → WritesPieces now after (gaps_above piece (map step_at held) (free_before next least span)) → WritesPieces start after (gaps_above piece (map step_at steps) (w.found ++ free))
  freed after f =
      found_more piece (map step_at steps) start now after w.found free w.told
      (subst (λ h. WritesPieces now after (gaps_above piece (map step_at h) free)) w.same (subst (λ k. WritesPieces now after (gaps_above piece (map step_at held) (free_before next k span))) m f))

  pub begun_free : (after : Tally X) → WritesPiecesPrefix now after (gaps_above piece (map step_at held) (free_before next least span)) → WritesGapsPrefixWhere piece (IsGapIn not_allowed tree) (map step_at steps) start after
  begun_free after f = record {
    found = w.found ++ free;
    front = front_over not_allowed tree (branches_of_span span inner (branches_of_spans left)) (walk.reach_of next (least_at (row_of tree)) span) (w.found ++ free) (span_reached not_allowed tree inner span (branches_of_spans left) next w.found here);
    told = found_later piece (map step_at steps) start now after w.found free w.told
        (subst (λ h. WritesPiecesPrefix now after (gaps_above piece (map step_at h) free)) w.same (subst (λ k. WritesPiecesPrefix now after (gaps_above piece (map step_at held) (free_before next k span))) m f));
  }

  -- and then the gaps of the span, or some of them
  pub walked_span :
      (later : ℕ) (middle after : Tally X) (popped : List StepRef) → later ≡ next_after next least span → WritesPieces now middle (gaps_above piece (map step_at held) (free_before next least span))
      → popped ≡ held → WritesGapsWhere piece (IsGapBelow (row_of tree) (branches_of_span span inner none)) (map step_at held) middle after → IsAlong piece not_allowed tree (branches_of_spans left) later start after steps popped
  walked_span later middle after popped l f back adds = record {
    same = back ∙ w.same;
    found = (w.found ++ free) ++ adds.found;
    over = walk.walked_span not_allowed tree inner span left next later w.found adds.found here (l ∙ ap (λ k. next_after next k span) m) adds.lists;
    told = found_more piece (map step_at steps) start middle after (w.found ++ free) adds.found (freed middle f) (subst (λ h. WritesPieces middle after (gaps_above piece (map step_at h) adds.found)) w.same adds.told);
  }

  pub begun_span :
      (middle after : Tally X) → WritesPieces now middle (gaps_above piece (map step_at held) (free_before next least span))
      → WritesGapsPrefixWhere piece (IsGapBelow (row_of tree) (branches_of_span span inner none)) (map step_at held) middle after → WritesGapsPrefixWhere piece (IsGapIn not_allowed tree) (map step_at steps) start after
  begun_span middle after f h = record {
    found = (w.found ++ free) ++ h.found;
    front = front_walked not_allowed tree inner span (branches_of_spans left) next w.found h.found here h.front;
    told = found_later piece (map step_at steps) start middle after (w.found ++ free) h.found (freed middle f) (subst (λ q. WritesPiecesPrefix middle after (gaps_above piece (map step_at q) h.found)) w.same h.told);
  }

-- the end of a place
module _
    {X : Type 0} (piece : Gap → List X) (not_allowed : Bool) (tree : Tree Row) (rest : List (Span × Tree Row)) (next least end : ℕ) (start now : Tally X)
    (steps held : List StepRef) (w : IsAlong piece not_allowed tree (branches_of_spans rest) next start now steps held) (c : rest ≡ []) (m : least ≡ least_at (row_of tree)) (e : end ≡ rest_from (rest_below tree) least) where
  last : IsOver not_allowed tree none (rest_from (rest_below tree) (least_at (row_of tree))) (w.found ++ free_elements next (end - next))
  last = freed_last not_allowed tree rest next least end w.found w.over c m e

  pub begun_last : (after : Tally X) → WritesPiecesPrefix now after (gaps_above piece (map step_at held) (free_elements next (end - next))) → WritesGapsPrefixWhere piece (IsGapIn not_allowed tree) (map step_at steps) start after
  begun_last after f = record {
    found = w.found ++ free_elements next (end - next);
    front = front_over not_allowed tree none (rest_from (rest_below tree) (least_at (row_of tree))) (w.found ++ free_elements next (end - next)) last;
    told = found_later piece (map step_at steps) start now after w.found (free_elements next (end - next)) w.told
        (subst (λ h. WritesPiecesPrefix now after (gaps_above piece (map step_at h) (free_elements next (end - next)))) w.same f);
  }

  all_free : (middle : Tally X) → WritesPieces now middle (gaps_above piece (map step_at held) (free_elements next (end - next))) → WritesPieces start middle (gaps_above piece (map step_at steps) (w.found ++ free_elements next (end - next)))
  all_free middle f =
      found_more piece (map step_at steps) start now middle w.found (free_elements next (end - next)) w.told
      (subst (λ h. WritesPieces now middle (gaps_above piece (map step_at h) (free_elements next (end - next)))) w.same f)

  pub walked_rest :
      (middle after : Tally X) → WritesPieces now middle (gaps_above piece (map step_at held) (free_elements next (end - next)))
      → WritesGapsWhere piece (IsGapOnward (least_at (row_of tree)) (rest_below tree)) (map step_at held) middle after → WritesGapsWhere piece (IsGapIn not_allowed tree) (map step_at steps) start after
  walked_rest middle after f adds = record {
    found = (w.found ++ free_elements next (end - next)) ++ adds.found;
    lists = ended not_allowed tree (w.found ++ free_elements next (end - next)) adds.found last adds.lists;
    told = found_more piece (map step_at steps) start middle after (w.found ++ free_elements next (end - next)) adds.found (all_free middle f)
        (subst (λ h. WritesPieces middle after (gaps_above piece (map step_at h) adds.found)) w.same adds.told);
  }

  pub begun_rest :
      (middle after : Tally X) → WritesPieces now middle (gaps_above piece (map step_at held) (free_elements next (end - next)))
      → WritesGapsPrefixWhere piece (IsGapOnward (least_at (row_of tree)) (rest_below tree)) (map step_at held) middle after → WritesGapsPrefixWhere piece (IsGapIn not_allowed tree) (map step_at steps) start after
  begun_rest middle after f h = record {
    found = (w.found ++ free_elements next (end - next)) ++ h.found;
    front = front_ended not_allowed tree (w.found ++ free_elements next (end - next)) h.found last h.front;
    told = found_later piece (map step_at steps) start middle after (w.found ++ free_elements next (end - next)) h.found (all_free middle f)
        (subst (λ q. WritesPiecesPrefix middle after (gaps_above piece (map step_at q) h.found)) w.same h.told);
  }

-- ---- elements that are alike
-- a gap below a step is before another one
lifted_before : (s : paths.Step) (ys : List Gap) (path : Path) → AllByRecursion (λ y. path_cmp (place_of y) path ≡ Less) ys → AllByRecursion (λ y. path_cmp (place_of y) (s ∷ path) ≡ Less) (map (gap_above (s ∷ [])) ys)
lifted_before s [] path h = tt
lifted_before s (y ∷ ys) path h = (ap (λ o. ordering_then o (path_cmp y.path path)) (same_step s) ∙ h.0, lifted_before s ys path h.1)

steps_before : (s t : paths.Step) (ys : List Gap) (path : Path) → step_cmp s t ≡ Less → AllByRecursion (λ y. path_cmp (place_of y) (t ∷ path) ≡ Less) (map (gap_above (s ∷ [])) ys)
steps_before s t [] path h = tt
steps_before s t (y ∷ ys) path h = (ap (λ o. ordering_then o (path_cmp y.path path)) h, steps_before s t ys path h)

module _
    (first number end : ℕ) (tree : Tree Row) (low : first ≤ number) (xs ys : List Gap) (so_far : Lists place_of (IsGapAmong first number tree) xs) (found : IsFront (IsGapIn false tree) ys)
    (more : number < end) where
  widen : (gap : Gap) → IsGapAmong first (number + 1) tree gap → IsGapAmong first end tree gap
  widen gap h = record { number = h.number; within = (h.within.0, omega (arith, h.within.1, more)); path = h.path; is = h.is; inner = h.inner }

  abbrev lifted : List Gap
  lifted = map (gap_above (index number ∷ [])) ys

  -- those at the elements before are before each gap from the element on
  first_before : (gap : Gap) (k : ℕ) (path : Path) → gap.path ≡ index k ∷ path → number ≤ k → AllByRecursion (λ y. path_cmp (place_of y) gap.path ≡ Less) xs
  first_before gap k path e l = all_from (IsGapAmong first number tree) (λ y. path_cmp (place_of y) gap.path ≡ Less) xs
      (λ y h. subst (λ p. path_cmp y.path p ≡ Less) (sym e) (element_before k y.path path h.path h.number h.is (omega (arith, h.within.1, l)))) so_far.sound

  next_gap : (gap : Gap) → IsGapAmong first end tree gap → OneOf (λ y. y ≡ gap) (xs ++ lifted) ⊎ AllByRecursion (λ y. path_cmp (place_of y) gap.path ≡ Less) (xs ++ lifted)
  next_gap gap h = elim (cases_lt h.number number) [
    | inl l ↦ inl (one_left (λ y. y ≡ gap) xs lifted (so_far.complete gap (record { number = h.number; within = (h.within.0, l); path = h.path; is = h.is; inner = h.inner })))
    | inr l ↦ ⊎_elim
        (λ e.
        let is : gap.path ≡ index number ∷ h.path = h.is ∙ ap (λ k. index k ∷ h.path) (sym e) in
        let inner : Gap = record gap { path = h.path } in
        ⊎_elim
        (λ o. inl (one_right (λ y. y ≡ gap) xs lifted
        (subst (λ p. OneOf (λ y. y ≡ record gap { path = p }) lifted) (sym is)
        (one_map (λ y. y ≡ inner) (λ y. y ≡ gap_above (index number ∷ []) inner) (gap_above (index number ∷ [])) ys (λ y f. ap (gap_above (index number ∷ [])) f) o))))
        (λ b. inr (all_append (λ y. path_cmp (place_of y) gap.path ≡ Less) xs lifted (first_before gap h.number h.path h.is l)
        (subst (λ p. AllByRecursion (λ y. path_cmp (place_of y) p ≡ Less) lifted) (sym is) (lifted_before (index number) ys h.path b))))
        (found.next inner h.inner))
        (λ m. inr (all_append (λ y. path_cmp (place_of y) gap.path ≡ Less) xs lifted (first_before gap h.number h.path h.is l)
        (subst (λ p. AllByRecursion (λ y. path_cmp (place_of y) p ≡ Less) lifted) (sym h.is) (steps_before (index number) (index h.number) ys h.path (less_index number h.number m)))))
        (eq-or-lt_of_le {n = number} {m = h.number} l)
  ]

  front_more : IsFront (IsGapAmong first end tree) (xs ++ lifted)
  front_more = record {
    sound = all_append (IsGapAmong first end tree) xs lifted
        (all_from (IsGapAmong first number tree) (IsGapAmong first end tree) xs (λ gap h. widen gap (among_more first number tree low gap h)) so_far.sound)
        (all_map (IsGapIn false tree) (IsGapAmong first end tree) (gap_above (index number ∷ [])) ys (λ gap h. widen (gap_above (index number ∷ []) gap) (among_last first number tree low gap h)) found.sound);
    rising = rising_append place_of xs lifted so_far.rising (rising_lifted place_of (gap_above (index number ∷ [])) (index number) (λ x. refl) ys found.rising)
        (all_from (IsGapAmong first number tree) (λ x. AllByRecursion (λ y. path_cmp (place_of x) (place_of y) ≡ Less) lifted) xs (λ x h. all_before x ys h) so_far.sound);
    next = next_gap;
  } where
    all_before : (x : Gap) (zs : List Gap) → IsGapAmong first number tree x → AllByRecursion (λ y. path_cmp (place_of x) (place_of y) ≡ Less) (map (gap_above (index number ∷ [])) zs)
    all_before x [] h = tt
    all_before x (z ∷ zs) h = (element_before number x.path z.path h.path h.number h.is h.within.1, all_before x zs h)

-- an element was begun
pub begun_element :
    {X : Type 0} (piece : Gap → List X) (first number end : ℕ) (tree : Tree Row) (path pushed : Path) (start now after : Tally X) → first ≤ number → number < end
    → WritesGapsWhere piece (IsGapAmong first number tree) path start now → pushed ≡ path ++ index number ∷ [] → WritesGapsPrefixWhere piece (IsGapIn false tree) pushed now after
    → WritesGapsPrefixWhere piece (IsGapAmong first end tree) path start after
begun_element piece first number end tree path pushed start now after l m h p f = record {
  found = h.found ++ map (gap_above (index number ∷ [])) f.found;
  front = front_more first number end tree l h.found f.found h.lists f.front m;
  told = found_later piece path start now after h.found (map (gap_above (index number ∷ [])) f.found) h.told (subst (WritesPiecesPrefix now after) (pushed_is piece path pushed (index number) f.found p) f.told);
}

-- no further element was begun
pub begun_alike :
    {X : Type 0} (piece : Gap → List X) (first number end : ℕ) (tree : Tree Row) (path : Path) (start now : Tally X) → first ≤ number → number < end
    → WritesGapsWhere piece (IsGapAmong first number tree) path start now → WritesGapsPrefixWhere piece (IsGapAmong first end tree) path start now
begun_alike piece first number end tree path start now l m h =
    begun_element piece first number end tree path (path ++ index number ∷ []) start now now l m h refl
    (fronts_none piece (IsGapIn false tree) (path ++ index number ∷ []) now now refl)

-- a field was begun
pub begun_field :
    {X : Type 0} (piece : Gap → List X) (row : Option Row) (step : paths.Step) (tree : Tree Row) (now after : Tally X) (steps pushed : List StepRef) (x : StepRef)
    → is_demanded row step (row_of tree) ≡ true → step_at x ≡ step → pushed ≡ steps ++ x ∷ [] → WritesGapsPrefixWhere piece (IsGapIn (is_refused row step) tree) (map step_at pushed) now after
    → WritesGapsPrefixWhere piece (IsGapBelow row (child step tree none)) (map step_at steps) now after
begun_field piece row step tree now after steps pushed x d s p f = record {
  found = map (gap_above (step ∷ [])) f.found;
  front = record {
    sound = all_map (IsGapIn (is_refused row step) tree) (IsGapBelow row (child step tree none)) (gap_above (step ∷ [])) f.found (field_up row step tree d) f.front.sound;
    rising = rising_lifted place_of (gap_above (step ∷ [])) step (λ x. refl) f.found f.front.rising;
    next = next;
  };
  told = subst (WritesPiecesPrefix now after) (pushed_is piece (map step_at steps) (map step_at pushed) step f.found (pushed_on steps steps pushed x p refl ∙ ap (λ z. map step_at steps ++ z ∷ []) s)) f.told;
} where
  next : (gap : Gap) → IsGapBelow row (child step tree none) gap → OneOf (λ y. y ≡ gap) (map (gap_above (step ∷ [])) f.found) ⊎ AllByRecursion (λ y. path_cmp (place_of y) gap.path ≡ Less) (map (gap_above (step ∷ [])) f.found)
  next gap h =
      let at = field_is row step tree gap h in
      let inner : Gap = record gap { path = at.0 } in
      ⊎_elim
      (λ o. inl (subst (λ p. OneOf (λ y. y ≡ record gap { path = p }) (map (gap_above (step ∷ [])) f.found)) (sym at.1)
      (one_map (λ y. y ≡ inner) (λ y. y ≡ gap_above (step ∷ []) inner) (gap_above (step ∷ [])) f.found (λ y g. ap (gap_above (step ∷ [])) g) o)))
      (λ b. inr (subst (λ p. AllByRecursion (λ y. path_cmp (place_of y) p ≡ Less) (map (gap_above (step ∷ [])) f.found)) (sym at.1) (lifted_before step f.found at.0 b)))
      (f.front.next inner at.2)

-- elements that are kept as one were begun
pub begun_run :
    {X : Type 0} (piece : Gap → List X) (row : Option Row) (first more end : ℕ) (tree : Tree Row) (path : Path) (now after : Tally X) → end ≡ min (least_at row) (first + more + 1)
    → WritesGapsPrefixWhere piece (IsGapAmong first end tree) path now after → WritesGapsPrefixWhere piece (IsGapBelow row (alike_elements first more tree none)) path now after
begun_run piece row first more end tree path now after e f =
    same_fronts piece (IsGapAmong first end tree) (IsGapBelow row (alike_elements first more tree none)) path now after (run_up row first more end tree e) (run_down row first more end tree e) f

-- or those of the rest
pub begun_among :
    {X : Type 0} (piece : Gap → List X) (tree rest : Tree Row) (first least : ℕ) (path : Path) (start after : Tally X) → Some rest ≡ rest_at (rest_below tree)
    → least ≡ least_at (row_of tree) → first ≡ rest_from (rest_below tree) least
    → WritesGapsPrefixWhere piece (IsGapAmong first least rest) path start after → WritesGapsPrefixWhere piece (IsGapOnward (least_at (row_of tree)) (rest_below tree)) path start after
begun_among piece tree rest first least path start after r m f h =
    same_fronts piece (IsGapAmong first least rest) (IsGapOnward (least_at (row_of tree)) (rest_below tree)) path start after
    (λ gap. (among_onward tree rest first least r m f gap).0) (λ gap. (among_onward tree rest first least r m f gap).1) h
