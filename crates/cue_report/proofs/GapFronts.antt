-- Searches for gaps that end early.
use Rattle.std.proofs.Common.{◌≡◌, ◌⊎◌, inl, inr, ⊎_elim, ℕ, ◌+◌, ◌<◌, ◌≤◌, if◌then◌else◌, Bool, true, false, List, [], ◌∷◌, ◌++◌, Option, Some, refl, sym, ap, subst, ◌∙◌, arith}
use Rattle.std.proofs.lemmas.Bool.{cases_lt}
use Rattle.std.proofs.lemmas.List.{append-nil}
use Rattle.std.specs.List.{AllByRecursion, flat_map}
use Rattle.std.specs.Ordering.{ordering_then}
use Rattle.std.specs.declared.cmp.Ordering.TheVariants.{Less}
use Rattle.cue_lattice.specs.Path as paths
use Rattle.cue_lattice.specs.Path.{label, index, step_cmp, Path, path_cmp}
use Rattle.cue_row.specs.declared.parts.RowParts.{RowParts as Row}
use Rattle.cue_table.specs.Spans.{Span, field, elements, alike_elements, branches_of_span}
use Rattle.cue_table.specs.Tree.{Tree, Children, none, child, row_of, rest_below, find}
use Rattle.cue_report.specs.Answers.{IsStepDemanded}
use Rattle.cue_report.specs.Gaps.{IsReportGap, AreGaps}
use Rattle.cue_report.specs.Inner.GapSearch.{IsGapAt, IsGapIn, IsGapHere, IsGapBelow, IsGapOnward, IsFront, WritesGapsPrefixWhere, free_before}
use Rattle.cue_report.specs.Listing.{Lists}
use Rattle.cue_report.specs.Inner.Search.{is_demanded, least_at, rest_from}
use Rattle.cue_report.specs.Telling.{Tally}
use Rattle.cue_report.specs.Inner.Telling.{WritesPiecesPrefix}
use Rattle.cue_report.specs.declared.gap.Gap.{Gap}
use Rattle.cue_report.proofs.Descent.{Told}
use Rattle.cue_report.proofs.FoundGaps.{place_of, UpTo, IsIn, path_cases, step_demanded, here_up, here_down, only_here, told_here, root_told, root_gap, gap_of_root}
use Rattle.cue_report.proofs.GapRests.{onward_up, onward_behind, onward_cover}
use Rattle.cue_report.proofs.GapTelling.{found_now}
use Rattle.cue_report.proofs.GapWalk.{IsOver, IsDone, demanded_label, done_before, less_index, nat_lt_is, nat_lt_not, reach_of, span_reached, span_up, span_down, span_order, up_to_last}
use Rattle.cue_report.proofs.OneList.{splits, has_of}
use Rattle.cue_report.proofs.Order.{all_append, all_from, one_left, one_right, rising_append}
use Rattle.cue_report.proofs.Rows.{is_below}
use Rattle.cue_report.proofs.SpanSteps.{alike_at, alike_is, only_branch, span_either}
use Rattle.cue_report.proofs.Found.{below_found}
use Rattle.cue_report.proofs.Telling.{starts_none}

-- all are before the path
abbrev AreBefore : List Gap → Path → Type 0
AreBefore xs path = AllByRecursion (λ y. path_cmp (place_of y) path ≡ Less) xs

-- ---- fronts
pub front_none : (P : Gap → Type 0) → IsFront P []
front_none P = record { sound = tt; rising = tt; next = λ gap h. inr tt }

pub front_all : (P : Gap → Type 0) (xs : List Gap) → Lists place_of P xs → IsFront P xs
front_all P xs h = record { sound = h.sound; rising = h.rising; next = λ gap p. inl (h.complete gap p) }

pub same_front : (P Q : Gap → Type 0) (xs : List Gap) → ((gap : Gap) → P gap → Q gap) → ((gap : Gap) → Q gap → P gap) → IsFront P xs → IsFront Q xs
same_front P Q xs f g h = record { sound = all_from P Q xs f h.sound; rising = h.rising; next = λ gap q. h.next gap (g gap q) }

pub same_fronts :
    {X : Type 0} (piece : Gap → List X) (P Q : Gap → Type 0) (path : Path) (start after : Tally X) → ((gap : Gap) → P gap → Q gap) → ((gap : Gap) → Q gap → P gap)
    → WritesGapsPrefixWhere piece P path start after → WritesGapsPrefixWhere piece Q path start after
same_fronts piece P Q path start after f g h = record { found = h.found; front = same_front P Q h.found f g h.front; told = h.told }

-- nothing was told
pub fronts_none : {X : Type 0} (piece : Gap → List X) (P : Gap → Type 0) (path : Path) (u v : Tally X) → v.known ≡ u.known → WritesGapsPrefixWhere piece P path u v
fronts_none piece P path u v e = record { found = []; front = front_none P; told = starts_none u v [] e }

-- of all, the front is the beginning
pub front_splits : (P : Gap → Type 0) (xs all : List Gap) → IsFront P xs → Lists place_of P all → (more : List Gap) × (all ≡ xs ++ more)
front_splits P xs all h k =
    splits place_of xs all h.rising k.rising (λ x o. k.complete x (has_of P xs x h.sound o)) (λ x o. h.next x (has_of P all x k.sound o))

-- from the root on
pub front_of_root :
    {X : Type 0} (piece : Gap → List X) (tree root : Tree Row) (old new : Tally X) (path : Path) → root ≡ tree → path ≡ [] → WritesGapsPrefixWhere piece (IsGapIn false root) path old new
    → (all : List Gap) → AreGaps (Told tree) all → WritesPiecesPrefix old new (flat_map piece all)
front_of_root piece tree root old new path r p h all k =
    let front : IsFront (IsReportGap (Told tree)) h.found = same_front (IsGapIn false tree) (IsReportGap (Told tree)) h.found (root_gap tree) (gap_of_root tree) (subst (λ t. IsFront (IsGapIn false t) h.found) r h.front) in
    let split = front_splits (IsReportGap (Told tree)) h.found all front k in
    subst (WritesPiecesPrefix old new) (root_told piece path (h.found ++ split.0) p ∙ ap (flat_map piece) (sym split.1)) (found_now piece path old new h.found split.0 h.told)

-- ---- at the place itself
pub looked_begun :
    {X : Type 0} (piece : Gap → List X) (not_allowed missing : Bool) (row : Option Row) (path : Path) (start after : Tally X) → not_allowed ≡ false → IsGapAt row missing
    → WritesPiecesPrefix start after (piece (record { path = path; missing = missing })) → WritesGapsPrefixWhere piece (IsGapHere not_allowed row) path start after
looked_begun piece not_allowed missing row path start after n g a = record {
  found = record { path = []; missing = missing } ∷ [];
  front = front_all (IsGapHere not_allowed row) (record { path = []; missing = missing } ∷ []) (only_here not_allowed missing row n g);
  told = subst (WritesPiecesPrefix start after) (told_here piece missing path) a;
}

pub here_begun :
    {X : Type 0} (piece : Gap → List X) (not_allowed : Bool) (tree : Tree Row) (path : Path) (start after : Tally X) → WritesGapsPrefixWhere piece (IsGapHere not_allowed (row_of tree)) path start after
    → WritesGapsPrefixWhere piece (IsGapIn not_allowed tree) path start after
here_begun piece not_allowed tree path start after h = record {
  found = h.found;
  front = record {
    sound = all_from (IsGapHere not_allowed (row_of tree)) (IsGapIn not_allowed tree) h.found (here_up not_allowed tree) h.front.sound;
    rising = h.front.rising;
    next = λ gap g. ⊎_elim (λ e. h.front.next gap (here_down not_allowed tree gap e g)) (λ (s, p, e). inr (before gap s p e)) (path_cases gap.path);
  };
  told = h.told;
} where
  before : (gap : Gap) (s : paths.Step) (p : Path) → gap.path ≡ s ∷ p → AreBefore h.found gap.path
  before gap s p e =
      all_from (IsGapHere not_allowed (row_of tree)) (λ y. path_cmp (place_of y) gap.path ≡ Less) h.found
      (λ y k. subst (λ q. path_cmp q gap.path ≡ Less) (sym k.here) (subst (λ q. path_cmp [] q ≡ Less) (sym e) refl)) h.front.sound

-- ---- below it
-- the path is behind the steps of which D holds, and behind the gaps of which P does
abbrev IsBehind : (paths.Step → Type 0) → (Gap → Type 0) → Path → Type 0
IsBehind D P path = ((p : Path) → IsIn D p → path_cmp p path ≡ Less) × ((y : Gap) → P y → path_cmp (place_of y) path ≡ Less)

-- with the front of others behind them the gaps so far are a front
front_by :
    (not_allowed : Bool) (tree : Tree Row) (D : paths.Step → Type 0) (P : Gap → Type 0) (xs ys : List Gap) → UpTo not_allowed tree D xs → IsFront P ys
    → ((gap : Gap) → P gap → IsGapIn not_allowed tree gap)
    → ((gap : Gap) (s : paths.Step) (path : Path) → gap.path ≡ s ∷ path → IsGapIn not_allowed tree gap → D s ⊎ (P gap ⊎ IsBehind D P gap.path))
    → ((p : Path) (gap : Gap) → IsIn D p → P gap → path_cmp p gap.path ≡ Less) → IsFront (IsGapIn not_allowed tree) (xs ++ ys)
front_by not_allowed tree D P xs ys h k sound cover order = record {
  sound = all_append (IsGapIn not_allowed tree) xs ys
      (all_from (λ gap. IsGapIn not_allowed tree gap × IsIn D gap.path) (IsGapIn not_allowed tree) xs (λ gap g. g.0) h.sound)
      (all_from P (IsGapIn not_allowed tree) ys sound k.sound);
  rising = rising_append place_of xs ys h.rising k.rising
      (all_from (λ gap. IsGapIn not_allowed tree gap × IsIn D gap.path) (λ x. AllByRecursion (λ y. path_cmp (place_of x) (place_of y) ≡ Less) ys) xs
      (λ x g. all_from P (λ y. path_cmp (place_of x) (place_of y) ≡ Less) ys (λ y p. order x.path y g.1 p) k.sound) h.sound);
  next = λ x g. ⊎_elim
      (λ e. inl (one_left (λ y. y ≡ x) xs ys (h.complete x (g, subst (IsIn D) (sym e) tt))))
      (λ (s, path, e). ⊎_elim
      (λ d. inl (one_left (λ y. y ≡ x) xs ys (h.complete x (g, subst (IsIn D) (sym e) d))))
      (λ o. ⊎_elim
      (λ p. ⊎_elim (λ m. inl (one_right (λ y. y ≡ x) xs ys m)) (λ b. inr (all_append (λ y. path_cmp (place_of y) x.path ≡ Less) xs ys (first x (λ q d. order q x d p)) b)) (k.next x p))
      (λ b. inr (all_append (λ y. path_cmp (place_of y) x.path ≡ Less) xs ys (first x b.0) (all_from P (λ y. path_cmp (place_of y) x.path ≡ Less) ys b.1 k.sound))) o)
      (cover x s path e g))
      (path_cases x.path);
} where
  first : (x : Gap) → ((p : Path) → IsIn D p → path_cmp p x.path ≡ Less) → AreBefore xs x.path
  first x b = all_from (λ gap. IsGapIn not_allowed tree gap × IsIn D gap.path) (λ y. path_cmp (place_of y) x.path ≡ Less) xs (λ y g. b y.path g.1) h.sound

-- paths whose first steps are before another step
steps_before : (D : paths.Step → Type 0) (s : paths.Step) (path q : Path) → path ≡ s ∷ q → ((d : paths.Step) → D d → step_cmp d s ≡ Less) → (p : Path) → IsIn D p → path_cmp p path ≡ Less
steps_before D s path q e low p d = subst (λ r. path_cmp p r ≡ Less) (sym e) (by p d)
  where
    by : (r : Path) → IsIn D r → path_cmp r (s ∷ q) ≡ Less
    by [] d = refl
    by (x ∷ r) d = ap (λ o. ordering_then o (path_cmp r q)) (low x d)

module _ (not_allowed : Bool) (tree : Tree Row) (rest : Children Row) (next : ℕ) (found : List Gap) (w : IsOver not_allowed tree rest next found) where
  -- what was looked at is before an element that was not
  elements_before : (n : ℕ) → next ≤ n → (d : paths.Step) → IsDone rest next d → step_cmp d (index n) ≡ Less
  elements_before n l (label text) h = refl
  elements_before n l (index m) h = let low : m < next = h in less_index m n (omega arith)

  done_or_later : (s : paths.Step) → IsStepDemanded (Told tree) [] s → IsDone rest next s ⊎ ((d : paths.Step) → IsDone rest next d → step_cmp d s ≡ Less)
  done_or_later (label text) d =
      let at = demanded_label tree text d in
      ⊎_elim (λ h. inl h) (λ f. inr (λ s h. done_before not_allowed tree rest next found w s (label text) at.0 h f)) (w.left (label text) at.0 d at.1)
  done_or_later (index n) d = elim (cases_lt n next) [
    | inl l ↦ inl l
    | inr l ↦ inr (elements_before n l)
  ]

  -- what was found so far is a front
  pub front_over : IsFront (IsGapIn not_allowed tree) found
  front_over =
      subst (IsFront (IsGapIn not_allowed tree)) (append-nil found)
      (front_by not_allowed tree (IsDone rest next) (λ gap. ⊥) found [] w.lists (front_none (λ gap. ⊥)) (λ gap h. absurd h)
      (λ gap s path e h. ⊎_elim (λ d. inl d) (λ low. inr (inr (steps_before (IsDone rest next) s gap.path path e low, λ y no. absurd no)))
      (done_or_later s (step_demanded not_allowed tree gap s path e h)))
      (λ p gap d h. absurd h))

-- a branch is of the span, or behind it
abbrev IsCovered : Bool → (tree inner : Tree Row) → Span → Children Row → ℕ → (paths.Step → Type 0) → paths.Step → Type 0
IsCovered not_allowed tree inner span left next P s =
    IsDone (branches_of_span span inner left) next s
    ⊎ (((t : Tree Row) × (find s (branches_of_span span inner none) ≡ Some t)) ⊎ (((d : paths.Step) → IsDone (branches_of_span span inner left) next d → step_cmp d s ≡ Less) × ((p : paths.Step) → P p → step_cmp p s ≡ Less)))

module _
    (not_allowed : Bool) (tree inner : Tree Row) (span : Span) (left : Children Row) (next : ℕ) (found : List Gap) (w : IsOver not_allowed tree (branches_of_span span inner left) next found)
    (P : paths.Step → Type 0) (is : (s : paths.Step) (t : Tree Row) → is_demanded (row_of tree) s (row_of t) ≡ true → find s (branches_of_span span inner none) ≡ Some t → P s) where
  -- a gap of the span begins with such a step
  span_before : (s : paths.Step) (path q : Path) → path ≡ s ∷ q → ((p : paths.Step) → P p → step_cmp p s ≡ Less) → (y : Gap) → IsGapBelow (row_of tree) (branches_of_span span inner none) y → path_cmp (place_of y) path ≡ Less
  span_before s path q e low y h =
      subst (λ r. path_cmp y.path r ≡ Less) (sym e) (subst (λ r. path_cmp r (s ∷ q) ≡ Less) (sym h.is) (ap (λ o. ordering_then o (path_cmp h.path q)) (low h.step (is h.step h.tree h.demanded h.found))))

  -- a front of the gaps of the span, behind those found so far
  front_span :
      (ys : List Gap)
      → ((s : paths.Step) → IsStepDemanded (Told tree) [] s → IsCovered not_allowed tree inner span left next P s)
      → IsFront (IsGapBelow (row_of tree) (branches_of_span span inner none)) ys → IsFront (IsGapIn not_allowed tree) (found ++ ys)
  front_span ys cover k =
      front_by not_allowed tree (IsDone (branches_of_span span inner left) next) (IsGapBelow (row_of tree) (branches_of_span span inner none)) found ys w.lists k
      (span_up not_allowed tree inner span left next found w)
      (λ gap s path e h. ⊎_elim (λ d. inl d)
      (λ o. ⊎_elim (λ (t, f). inr (inl (span_down not_allowed tree inner span left next found w gap s path e h t f)))
      (λ (low, behind). inr (inr (steps_before (IsDone (branches_of_span span inner left) next) s gap.path path e low, span_before s gap.path path e behind))) o)
      (cover s (step_demanded not_allowed tree gap s path e h)))
      (span_order not_allowed tree inner span left next found w)

label_cover :
    (not_allowed : Bool) (tree inner : Tree Row) (span : Span) (left : Children Row) (next : ℕ) (found : List Gap) (P : paths.Step → Type 0) → IsOver not_allowed tree (branches_of_span span inner left) next found
    → ((s : paths.Step) (t : Tree Row) → find s left ≡ Some t → (p : paths.Step) → P p → step_cmp p s ≡ Less) → (text : List ℕ) → IsStepDemanded (Told tree) [] (label text)
    → IsCovered not_allowed tree inner span left next P (label text)
label_cover not_allowed tree inner span left next found P w behind text d =
    let at = demanded_label tree text d in
    ⊎_elim (λ h. inl h)
    (λ f. inr (⊎_elim (λ g. inl (at.0, g)) (λ g. inr (λ s h. done_before not_allowed tree (branches_of_span span inner left) next found w s (label text) at.0 h f, behind (label text) at.0 g)) (span_either (label text) span inner at.0 left f)))
    (w.left (label text) at.0 d at.1)

-- the elements of a run that each list has
abbrev IsElement : ℕ → ℕ → ℕ → paths.Step → Type 0
IsElement first more least p = (m : ℕ) × (p ≡ index m) × (m ≤ first + more) × (first ≤ m) × (m < least)

-- the front of a span, whatever it has
front_at :
    (not_allowed : Bool) (tree inner : Tree Row) (span : Span) (left : Children Row) (next : ℕ) (found ys : List Gap)
    → IsOver not_allowed tree (branches_of_span span inner left) (reach_of next (least_at (row_of tree)) span) found → IsFront (IsGapBelow (row_of tree) (branches_of_span span inner none)) ys
    → IsFront (IsGapIn not_allowed tree) (found ++ ys)
front_at not_allowed tree inner (field text) left next found ys w k =
    front_span not_allowed tree inner (field text) left next found w (λ p. p ≡ label text) (λ s t d f. (only_branch s (label text) inner t f).0) ys cover k
  where
    behind : (s : paths.Step) (t : Tree Row) → find s left ≡ Some t → (p : paths.Step) → p ≡ label text → step_cmp p s ≡ Less
    behind s t f p e = subst (λ q. step_cmp q s ≡ Less) (sym e) (below_found (label text) s t left w.rise.0 f)

    cover : (s : paths.Step) → IsStepDemanded (Told tree) [] s → IsCovered not_allowed tree inner (field text) left next (λ p. p ≡ label text) s
    cover (label name) d = label_cover not_allowed tree inner (field text) left next found (λ p. p ≡ label text) w behind name d
    cover (index n) d = elim (cases_lt n next) [
      | inl l ↦ inl l
      | inr l ↦ inr (inr (elements_before not_allowed tree (child (label text) inner left) next found w n l, λ p e. subst (λ q. step_cmp q (index n) ≡ Less) (sym e) refl))
    ]
front_at not_allowed tree inner (elements first more) left next found ys w k = elim (cases_lt first (least_at (row_of tree))) [
  | inl low ↦ asked low
  | inr high ↦ unasked high
] where
  one : (s : paths.Step) (t : Tree Row) → is_demanded (row_of tree) s (row_of t) ≡ true → find s (alike_elements first more inner none) ≡ Some t → IsElement first more (least_at (row_of tree)) s
  one s t d f =
      let at = alike_is s first more inner t f in
      (at.number, at.is, at.most, at.least, is_below (row_of tree) at.number (subst (λ u. is_demanded (row_of tree) u (row_of t) ≡ true) at.is d))

  behind : (s : paths.Step) (t : Tree Row) → find s left ≡ Some t → (p : paths.Step) → IsElement first more (least_at (row_of tree)) p → step_cmp p s ≡ Less
  behind s t f p (m, e, l, o, a) = subst (λ q. step_cmp q s ≡ Less) (sym e) (below_found (index m) s t left (up_to_last m first more inner left w.rise l) f)

  asked : first < least_at (row_of tree) → IsFront (IsGapIn not_allowed tree) (found ++ ys)
  asked low = front_span not_allowed tree inner (elements first more) left first found here (IsElement first more (least_at (row_of tree))) one ys cover k where
    here : IsOver not_allowed tree (alike_elements first more inner left) first found
    here = subst (λ b. IsOver not_allowed tree (alike_elements first more inner left) (if b then first else next) found) (nat_lt_is first (least_at (row_of tree)) low) w

    cover : (s : paths.Step) → IsStepDemanded (Told tree) [] s → IsCovered not_allowed tree inner (elements first more) left first (IsElement first more (least_at (row_of tree))) s
    cover (label name) d = label_cover not_allowed tree inner (elements first more) left first found (IsElement first more (least_at (row_of tree))) here behind name d
    cover (index n) d = elim (cases_lt n first) [
      | inl l ↦ inl l
      | inr l ↦ elim (cases_lt (first + more) n) [
        | inl m ↦ inr (inr (elements_before not_allowed tree (alike_elements first more inner left) first found here n l, λ p (i, e, most, o, a). subst (λ q. step_cmp q (index n) ≡ Less) (sym e) (less_index i n (omega (arith, m, most)))))
        | inr m ↦ inr (inl (inner, alike_at first more n inner none l m))
      ]
    ]

  unasked : least_at (row_of tree) ≤ first → IsFront (IsGapIn not_allowed tree) (found ++ ys)
  unasked high = front_span not_allowed tree inner (elements first more) left next found here (IsElement first more (least_at (row_of tree))) one ys cover k where
    here : IsOver not_allowed tree (alike_elements first more inner left) next found
    here = subst (λ b. IsOver not_allowed tree (alike_elements first more inner left) (if b then first else next) found) (nat_lt_not first (least_at (row_of tree)) high) w

    cover : (s : paths.Step) → IsStepDemanded (Told tree) [] s → IsCovered not_allowed tree inner (elements first more) left next (IsElement first more (least_at (row_of tree))) s
    cover (label name) d = label_cover not_allowed tree inner (elements first more) left next found (IsElement first more (least_at (row_of tree))) here behind name d
    cover (index n) d = elim (cases_lt n next) [
      | inl l ↦ inl l
      | inr l ↦ inr (inr (elements_before not_allowed tree (alike_elements first more inner left) next found here n l, λ p (i, e, most, o, a). absurd (let no : ⊥ = omega (arith, high, o, a) in no)))
    ]

pub front_walked :
    (not_allowed : Bool) (tree inner : Tree Row) (span : Span) (left : Children Row) (next : ℕ) (found ys : List Gap) → IsOver not_allowed tree (branches_of_span span inner left) next found
    → IsFront (IsGapBelow (row_of tree) (branches_of_span span inner none)) ys → IsFront (IsGapIn not_allowed tree) ((found ++ free_before next (least_at (row_of tree)) span) ++ ys)
front_walked not_allowed tree inner span left next found ys w k =
    front_at not_allowed tree inner span left next (found ++ free_before next (least_at (row_of tree)) span) ys (span_reached not_allowed tree inner span left next found w) k

-- behind all branches the front of the rest
pub front_ended :
    (not_allowed : Bool) (tree : Tree Row) (found ys : List Gap) → IsOver not_allowed tree none (rest_from (rest_below tree) (least_at (row_of tree))) found
    → IsFront (IsGapOnward (least_at (row_of tree)) (rest_below tree)) ys → IsFront (IsGapIn not_allowed tree) (found ++ ys)
front_ended not_allowed tree found ys w k =
    front_by not_allowed tree (IsDone none (rest_from (rest_below tree) (least_at (row_of tree)))) (IsGapOnward (least_at (row_of tree)) (rest_below tree)) found ys w.lists k
    (λ gap h. onward_up not_allowed tree (rest_below tree) gap refl h)
    (λ gap s path e h. ⊎_elim (λ d. inl d) (λ p. inr (inl p)) (onward_cover not_allowed tree gap s path e h)) (onward_behind (rest_below tree) (least_at (row_of tree)))
