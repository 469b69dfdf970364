-- The gaps at the rest of a list, and the end of a search at a place.
use Rattle.std.proofs.Common.{◌≡◌, ◌↔◌, ◌⊎◌, inl, inr, ⊎_elim, ℕ, ◌+◌, ◌-◌, ◌<◌, ◌≤◌, Bool, false, List, [], ◌∷◌, ◌++◌, map, Some, refl, sym, ap, subst, ◌∙◌, arith}
use Rattle.std.proofs.Math.Nat.{eq-or-lt_of_le}
use Rattle.std.proofs.lemmas.Bool.{cases_lt}
use Rattle.std.specs.List.{AllByRecursion}
use Rattle.std.specs.Ordering.{ordering_then}
use Rattle.std.specs.declared.cmp.Ordering.TheVariants.{Less}
use Rattle.cue_lattice.specs.OneOf.{OneOf}
use Rattle.cue_lattice.specs.Path as paths
use Rattle.cue_lattice.specs.Path.{label, index, step_cmp, Path, path_cmp}
use Rattle.cue_row.specs.declared.parts.RowParts.{RowParts as Row}
use Rattle.cue_table.specs.Spans.{Span, branches_of_spans}
use Rattle.cue_table.specs.Tree.{Tree, node, none, Rest, no_rest, onward, row_of, rest_below, rest_at}
use Rattle.cue_report.specs.Inner.GapSearch.{IsGapIn, IsGapAmong, IsGapOnward, WritesGapsWhere, gap_above, free_elements}
use Rattle.cue_report.specs.Listing.{Lists}
use Rattle.cue_report.specs.Inner.Search.{least_at, rest_from}
use Rattle.cue_report.specs.Telling.{Tally}
use Rattle.cue_report.specs.Inner.Telling.{WritesPieces}
use Rattle.cue_report.specs.declared.gap.Gap.{Gap}
use Rattle.cue_report.proofs.Descent.{seen}
use Rattle.cue_report.proofs.Elements.{less_index}
use Rattle.cue_report.proofs.FoundGaps.{place_of, IsIn, step_demanded, gap_up, gap_down, with_others}
use Rattle.cue_report.proofs.GapTelling.{found_more, pushed_is}
use Rattle.cue_report.proofs.GapWalk.{IsOver, IsDone, freed}
use Rattle.cue_report.proofs.Order.{all_append, all_map, all_from, one_left, one_right, one_map, rising_append, rising_lifted}
use Rattle.cue_report.proofs.Rests.{at_rest}
use Rattle.cue_report.proofs.Telling.{grows_none}
use Rattle.cue_report.proofs.Rows.{longer_is, index_allowed, is_below, is_long}

-- ---- element by element
-- a path at an element before a number is before the paths at that
pub element_before : (number : ℕ) (p q path : Path) (k : ℕ) → p ≡ index k ∷ path → k < number → path_cmp p (index number ∷ q) ≡ Less
element_before number p q path k e l = ap (λ r. path_cmp r (index number ∷ q)) e ∙ ap (λ o. ordering_then o (path_cmp path q)) (less_index k number l)

module _ (first number : ℕ) (tree : Tree Row) (low : first ≤ number) where
  pub among_more : (gap : Gap) → IsGapAmong first number tree gap → IsGapAmong first (number + 1) tree gap
  among_more gap h = record { number = h.number; within = (h.within.0, omega (arith, h.within.1)); path = h.path; is = h.is; inner = h.inner }

  pub among_last : (gap : Gap) → IsGapIn false tree gap → IsGapAmong first (number + 1) tree (gap_above (index number ∷ []) gap)
  among_last gap h = record { number = number; within = (low, omega arith); path = gap.path; is = refl; inner = h }

module _ (first number : ℕ) (tree : Tree Row) (low : first ≤ number) (xs ys : List Gap) (so_far : Lists place_of (IsGapAmong first number tree) xs) (found : Lists place_of (IsGapIn false tree) ys) where
  in_last : (x : Gap) (path : Path) → x.path ≡ index number ∷ path → IsGapIn false tree (record x { path = path }) → OneOf (λ y. y ≡ x) (map (gap_above (index number ∷ [])) ys)
  in_last x path e h =
      let inner : Gap = record x { path = path } in
      subst (λ p. OneOf (λ y. y ≡ record x { path = p }) (map (gap_above (index number ∷ [])) ys)) (sym e)
      (one_map (λ y. y ≡ inner) (λ y. y ≡ gap_above (index number ∷ []) inner) (gap_above (index number ∷ [])) ys (λ y f. ap (gap_above (index number ∷ [])) f) (found.complete inner h))

  all_before : (x : Gap) (zs : List Gap) → IsGapAmong first number tree x → AllByRecursion (λ y. path_cmp (place_of x) (place_of y) ≡ Less) (map (gap_above (index number ∷ [])) zs)
  all_before x [] h = tt
  all_before x (z ∷ zs) h = (element_before number x.path z.path h.path h.number h.is h.within.1, all_before x zs h)

  pub one_more : Lists place_of (IsGapAmong first (number + 1) tree) (xs ++ map (gap_above (index number ∷ [])) ys)
  one_more = record {
    sound = all_append (IsGapAmong first (number + 1) tree) xs (map (gap_above (index number ∷ [])) ys)
        (all_from (IsGapAmong first number tree) (IsGapAmong first (number + 1) tree) xs (among_more first number tree low) so_far.sound)
        (all_map (IsGapIn false tree) (IsGapAmong first (number + 1) tree) (gap_above (index number ∷ [])) ys (among_last first number tree low) found.sound);
    complete = λ x h. ⊎_elim
        (λ e. one_right (λ y. y ≡ x) xs (map (gap_above (index number ∷ [])) ys) (in_last x h.path (h.is ∙ ap (λ k. index k ∷ h.path) e) h.inner))
        (λ l. one_left (λ y. y ≡ x) xs (map (gap_above (index number ∷ [])) ys)
        (so_far.complete x (record { number = h.number; within = (h.within.0, l); path = h.path; is = h.is; inner = h.inner })))
        (eq-or-lt_of_le {n = h.number} {m = number} (omega (arith, h.within.1)));
    rising = rising_append place_of xs (map (gap_above (index number ∷ [])) ys) so_far.rising
        (rising_lifted place_of (gap_above (index number ∷ [])) (index number) (λ x. refl) ys found.rising)
        (all_from (IsGapAmong first number tree) (λ x. AllByRecursion (λ y. path_cmp (place_of x) (place_of y) ≡ Less) (map (gap_above (index number ∷ [])) ys)) xs
        (λ x h. all_before x ys h) so_far.sound);
  }

-- no element was looked at yet
pub none_among : {X : Type 0} (piece : Gap → List X) (first : ℕ) (tree : Tree Row) (path : Path) (start : Tally X) → WritesGapsWhere piece (IsGapAmong first first tree) path start start
none_among piece first tree path start = record {
  found = [];
  lists = record { sound = tt; complete = λ x h. absurd (let least = h.within.0 in let most = h.within.1 in let no : ⊥ = omega arith in no); rising = tt };
  told = grows_none start;
}

-- one more was looked at
pub element_added :
    {X : Type 0} (piece : Gap → List X) (first number : ℕ) (tree : Tree Row) (path pushed : Path) (start now after : Tally X) → first ≤ number
    → WritesGapsWhere piece (IsGapAmong first number tree) path start now → pushed ≡ path ++ index number ∷ [] → WritesGapsWhere piece (IsGapIn false tree) pushed now after
    → WritesGapsWhere piece (IsGapAmong first (number + 1) tree) path start after
element_added piece first number tree path pushed start now after l h p adds =
    let last : List Gap = map (gap_above (index number ∷ [])) adds.found in
    record {
      found = h.found ++ last;
      lists = one_more first number tree l h.found adds.found h.lists adds.lists;
      told = found_more piece path start now after h.found last h.told (subst (WritesPieces now after) (pushed_is piece path pushed (index number) adds.found p) adds.told);
    }

-- the same, told otherwise
pub same_added :
    {X : Type 0} (piece : Gap → List X) (P Q : Gap → Type 0) (path : Path) (start after : Tally X) → ((gap : Gap) → P gap → Q gap) → ((gap : Gap) → Q gap → P gap)
    → WritesGapsWhere piece P path start after → WritesGapsWhere piece Q path start after
same_added piece P Q path start after f g h = record {
  found = h.found;
  lists = record { sound = all_from P Q h.found f h.lists.sound; complete = λ x q. h.lists.complete x (g x q); rising = h.lists.rising };
  told = h.told;
}

-- elements that are as many
pub same_elements :
    {X : Type 0} (piece : Gap → List X) (first number end : ℕ) (tree : Tree Row) (path : Path) (start after : Tally X) → number - first ≡ end - first
    → WritesGapsWhere piece (IsGapAmong first number tree) path start after → WritesGapsWhere piece (IsGapAmong first end tree) path start after
same_elements piece first number end tree path start after e h =
    same_added piece (IsGapAmong first number tree) (IsGapAmong first end tree) path start after
    (λ gap k. record { number = k.number; within = (k.within.0, omega (arith, k.within, e)); path = k.path; is = k.is; inner = k.inner })
    (λ gap k. record { number = k.number; within = (k.within.0, omega (arith, k.within, e)); path = k.path; is = k.is; inner = k.inner })
    h

-- the elements that are the rest
pub among_onward :
    (tree rest : Tree Row) (first least : ℕ) → Some rest ≡ rest_at (rest_below tree) → least ≡ least_at (row_of tree) → first ≡ rest_from (rest_below tree) least
    → (gap : Gap) → IsGapAmong first least rest gap ↔ IsGapOnward (least_at (row_of tree)) (rest_below tree) gap
among_onward (node row children no_rest) rest first least r m f gap = cc
among_onward (node row children (onward n inner)) rest first least r m f gap =
    let same : rest ≡ inner = cc in (
      λ k. record { number = k.number; within = (omega (arith, k.within, f, m), omega (arith, k.within, m)); path = k.path; is = k.is; inner = subst (λ t. IsGapIn false t (record gap { path = k.path })) same k.inner },
      λ k. record { number = k.number; within = (omega (arith, k.within, f, m), omega (arith, k.within, m)); path = k.path; is = k.is; inner = subst (λ t. IsGapIn false t (record gap { path = k.path })) (sym same) k.inner },
    )

-- all were looked at
pub all_among :
    {X : Type 0} (piece : Gap → List X) (tree rest : Tree Row) (first least : ℕ) (path : Path) (start after : Tally X) → Some rest ≡ rest_at (rest_below tree)
    → least ≡ least_at (row_of tree) → first ≡ rest_from (rest_below tree) least
    → WritesGapsWhere piece (IsGapAmong first least rest) path start after → WritesGapsWhere piece (IsGapOnward (least_at (row_of tree)) (rest_below tree)) path start after
all_among piece tree rest first least path start after r m f h =
    same_added piece (IsGapAmong first least rest) (IsGapOnward (least_at (row_of tree)) (rest_below tree)) path start after
    (λ gap. (among_onward tree rest first least r m f gap).0) (λ gap. (among_onward tree rest first least r m f gap).1) h

-- nothing is looked at where there is no rest
pub nothing_onward : {X : Type 0} (piece : Gap → List X) (tree : Tree Row) (path : Path) (start : Tally X) → rest_below tree ≡ no_rest → WritesGapsWhere piece (IsGapOnward (least_at (row_of tree)) (rest_below tree)) path start start
nothing_onward piece tree path start e = subst (λ rest. WritesGapsWhere piece (IsGapOnward (least_at (row_of tree)) rest) path start start) (sym e) (record {
  found = [];
  lists = record { sound = tt; complete = λ x h. absurd h; rising = tt };
  told = grows_none start;
})

-- ---- the end of a search at a place
-- what is a gap of the rest is one of the place
pub onward_up : (not_allowed : Bool) (tree : Tree Row) (rest : Rest Row) (gap : Gap) → rest_below tree ≡ rest → IsGapOnward (least_at (row_of tree)) rest gap → IsGapIn not_allowed tree gap
onward_up not_allowed tree no_rest gap e h = absurd h
onward_up not_allowed tree (onward n inner) gap e h =
    subst (λ p. IsGapIn not_allowed tree (record gap { path = p })) (sym h.is)
    (gap_up not_allowed tree inner (index h.number) (record gap { path = h.path }) (seen tree inner (index h.number) (at_rest tree inner n h.number e h.within.0))
    (is_long (row_of tree) h.number h.within.1)
    (subst (λ b. IsGapIn b inner (record gap { path = h.path })) (sym (index_allowed (row_of tree) h.number)) h.inner))

-- and a gap of the place, from where the rest begins on, is one of the rest
onward_down :
    (not_allowed : Bool) (tree : Tree Row) (rest : Rest Row) (gap : Gap) (n : ℕ) (path : Path) → rest_below tree ≡ rest → gap.path ≡ index n ∷ path
    → rest_from rest (least_at (row_of tree)) ≤ n → n < least_at (row_of tree) → IsGapIn not_allowed tree gap → IsGapOnward (least_at (row_of tree)) rest gap
onward_down not_allowed tree no_rest gap n path e is l m h = let high : least_at (row_of tree) ≤ n = l in omega arith
onward_down not_allowed tree (onward from inner) gap n path e is l m h =
    let high : from ≤ n = omega (arith, l, m) in
    record {
      number = n;
      within = (high, m);
      path = path;
      is = is;
      inner = subst (λ b. IsGapIn b inner (record gap { path = path })) (index_allowed (row_of tree) n)
          (gap_down not_allowed tree inner (index n) gap path is (seen tree inner (index n) (at_rest tree inner from n e high)) h);
    }

-- a gap of the rest is behind what was looked at before it
pub onward_behind :
    (rest : Rest Row) (least : ℕ) (p : Path) (gap : Gap) → IsIn (IsDone none (rest_from rest least)) p → IsGapOnward least rest gap → path_cmp p gap.path ≡ Less
onward_behind no_rest least p gap d h = absurd h
onward_behind (onward n inner) least p gap d h = subst (λ q. path_cmp p q ≡ Less) (sym h.is) (by p d)
  where
    by : (q : Path) → IsIn (IsDone none (rest_from (onward n inner) least)) q → path_cmp q (index h.number ∷ h.path) ≡ Less
    by [] d = refl
    by (label text ∷ q) d = refl
    by (index k ∷ q) d =
        let low : k < rest_from (onward n inner) least = d in
        ap (λ o. ordering_then o (path_cmp q h.path)) (less_index k h.number (omega (arith, h.within.0, low)))

-- all branches and the free elements behind them were looked at
pub freed_last :
    (not_allowed : Bool) (tree : Tree Row) (rest : List (Span × Tree Row)) (next least end : ℕ) (found : List Gap)
    → IsOver not_allowed tree (branches_of_spans rest) next found → rest ≡ [] → least ≡ least_at (row_of tree) → end ≡ rest_from (rest_below tree) least
    → IsOver not_allowed tree none (rest_from (rest_below tree) (least_at (row_of tree))) (found ++ free_elements next (end - next))
freed_last not_allowed tree rest next least end found w c m e =
    let last : ℕ = rest_from (rest_below tree) (least_at (row_of tree)) in
    let is : end ≡ last = e ∙ ap (rest_from (rest_below tree)) m in
    let over : IsOver not_allowed tree none next found = subst (λ spans. IsOver not_allowed tree (branches_of_spans spans) next found) c w in
    let to : next + (end - next) ≡ last = omega (arith, is, over.within) in
    subst (λ k. IsOver not_allowed tree none k (found ++ free_elements next (end - next))) to
    (freed not_allowed tree none next (end - next) found over (λ n l h. (omega (arith, to, h), tt)))

-- a gap is one of those, or one of the rest
pub onward_cover :
    (not_allowed : Bool) (tree : Tree Row) (gap : Gap) (s : paths.Step) (path : Path) → gap.path ≡ s ∷ path → IsGapIn not_allowed tree gap
    → IsDone none (rest_from (rest_below tree) (least_at (row_of tree))) s ⊎ IsGapOnward (least_at (row_of tree)) (rest_below tree) gap
onward_cover not_allowed tree gap (label text) path e h = inl tt
onward_cover not_allowed tree gap (index n) path e h = elim (cases_lt n (rest_from (rest_below tree) (least_at (row_of tree)))) [
  | inl l ↦ inl l
  | inr l ↦ inr (onward_down not_allowed tree (rest_below tree) gap n path refl e l
      (is_below (row_of tree) n ((longer_is (row_of tree) n).1 (step_demanded not_allowed tree gap (index n) path e h))) h)
]

-- and with the rest these are all
pub ended :
    (not_allowed : Bool) (tree : Tree Row) (found ys : List Gap) → IsOver not_allowed tree none (rest_from (rest_below tree) (least_at (row_of tree))) found
    → Lists place_of (IsGapOnward (least_at (row_of tree)) (rest_below tree)) ys → Lists place_of (IsGapIn not_allowed tree) (found ++ ys)
ended not_allowed tree found ys w adds =
    with_others not_allowed tree (IsDone none (rest_from (rest_below tree) (least_at (row_of tree)))) (IsGapOnward (least_at (row_of tree)) (rest_below tree)) found ys w.lists adds
    (λ gap h. onward_up not_allowed tree (rest_below tree) gap refl h) (onward_cover not_allowed tree) (onward_behind (rest_below tree) (least_at (row_of tree)))
