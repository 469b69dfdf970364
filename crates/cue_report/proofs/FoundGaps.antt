-- The gaps of a tree are those of its own place and those of its branches, step by step.
use Rattle.std.proofs.Common.{◌≡◌, ◌⊎◌, inl, inr, ⊎_elim, ℕ, Some, Bool, true, false, List, [], ◌∷◌, ◌++◌, map, Option, refl, sym, ap, subst, ◌∙◌}
use Rattle.std.specs.Ordering.{ordering_then}
use Rattle.std.specs.List.{AllByRecursion, flat_map}
use Rattle.std.proofs.lemmas.Bool.{false≢true}
use Rattle.std.proofs.lemmas.List.{append-nil}
use Rattle.std.specs.declared.cmp.Ordering.TheVariants.{Less}
use Rattle.cue_lattice.specs.OneOf.{OneOf}
use Rattle.cue_lattice.specs.Path as paths
use Rattle.cue_lattice.specs.Path.{step_cmp, Path, path_cmp}
use Rattle.cue_row.specs.declared.parts.RowParts.{RowParts as Row}
use Rattle.cue_table.specs.Tree.{Tree, node, row_of, row_at}
use Rattle.cue_report.specs.Answers.{IsDemanded, IsStepDemanded, IsNotAllowed}
use Rattle.cue_report.specs.Gaps.{IsReportGap, AreGaps}
use Rattle.cue_report.specs.Inner.GapSearch.{WritesGapsWhere, IsGapAt, IsBarred, IsGapIn, IsGapHere, gap_above, gaps_above}
use Rattle.cue_report.specs.Listing.{Lists}
use Rattle.cue_report.specs.Inner.Search.{is_demanded, is_refused}
use Rattle.cue_report.specs.declared.gap.Gap.{Gap}
use Rattle.cue_report.specs.Telling.{Tally}
use Rattle.cue_report.specs.Inner.Telling.{WritesPieces}
use Rattle.cue_report.proofs.Texts.{listed}
use Rattle.cue_report.proofs.Telling.{grows_none}
use Rattle.cue_report.proofs.Empty.{same_truth}
use Rattle.cue_report.proofs.Order.{all_append, all_map, all_from, one_left, one_right, one_map, rising_append, rising_lifted}
use Rattle.cue_report.proofs.Descent.{Told, IsSeen, demanded_down, demanded_up, barred_below, first_demanded, at_root}

abbrev pub place_of : Gap → Path
place_of gap = gap.path

-- a gap of a branch is one of the tree
pub gap_up :
    (not_allowed : Bool) (tree inner : Tree Row) (step : paths.Step) (gap : Gap) → IsSeen tree inner step
    → is_demanded (row_of tree) step (row_of inner) ≡ true → IsGapIn (is_refused (row_of tree) step) inner gap
    → IsGapIn not_allowed tree (gap_above (step ∷ []) gap)
gap_up not_allowed tree inner step gap same d h = record {
  demanded = demanded_up tree inner step same gap.path ((first_demanded tree inner step same).0 d) h.demanded;
  allowed = λ b. h.allowed ((barred_below tree inner step gap.path same).1 b);
  lacking = let P : Option Row → Type 0 = λ row. IsGapAt row gap.missing in subst P (sym (same gap.path)) h.lacking;
}

-- and the other way round
pub gap_down :
    (not_allowed : Bool) (tree inner : Tree Row) (step : paths.Step) (gap : Gap) (path : Path) → gap.path ≡ step ∷ path → IsSeen tree inner step
    → IsGapIn not_allowed tree gap → IsGapIn (is_refused (row_of tree) step) inner (record gap { path = path })
gap_down not_allowed tree inner step gap path e same h =
    let demanded : IsDemanded (Told tree) (step ∷ path) = subst (IsDemanded (Told tree)) e h.demanded in
    let allowed : IsNotAllowed (Told tree) (step ∷ path) → ⊥ = subst (λ p. IsBarred not_allowed (Told tree) p → ⊥) e h.allowed in
    let lacking : IsGapAt (row_at tree (step ∷ path)) gap.missing = subst (λ p. IsGapAt (row_at tree p) gap.missing) e h.lacking in
    let P : Option Row → Type 0 = λ row. IsGapAt row gap.missing in
    record {
      demanded = demanded_down tree inner step same path demanded;
      allowed = λ b. allowed ((barred_below tree inner step path same).0 b);
      lacking = subst P (same path) lacking;
    }

-- the first step to a gap is demanded
pub step_demanded : (not_allowed : Bool) (tree : Tree Row) (gap : Gap) (step : paths.Step) (path : Path) → gap.path ≡ step ∷ path → IsGapIn not_allowed tree gap → IsStepDemanded (Told tree) [] step
step_demanded not_allowed tree gap step path e h =
    let demanded : IsDemanded (Told tree) (step ∷ path) = subst (IsDemanded (Told tree)) e h.demanded in
    demanded [] path step refl

-- the path is that of the place itself, or its first step is one of those of which D holds
abbrev pub IsIn : (paths.Step → Type 0) → Path → Type 0
IsIn D [] = Unit {0}
IsIn D (step ∷ path) = D step

-- the list has the gaps up to the steps of which D holds
abbrev pub UpTo : Bool → Tree Row → (paths.Step → Type 0) → List Gap → Type 0
UpTo not_allowed tree D = Lists place_of (λ gap. IsGapIn not_allowed tree gap × IsIn D gap.path)

pub path_cases : (path : Path) → (path ≡ []) ⊎ ((step : paths.Step) × (rest : Path) × (path ≡ step ∷ rest))
path_cases [] = inl refl
path_cases (step ∷ rest) = inr (step, rest, refl)

module _
    (not_allowed : Bool) (tree inner : Tree Row) (step : paths.Step) (D E : paths.Step → Type 0) (xs ys : List Gap) (same : IsSeen tree inner step)
    (asked : is_demanded (row_of tree) step (row_of inner) ≡ true) (found : Lists place_of (IsGapIn (is_refused (row_of tree) step) inner) ys)
    (so_far : UpTo not_allowed tree D xs) (before : (s : paths.Step) → D s → step_cmp s step ≡ Less) (kept : (s : paths.Step) → D s → E s) (new : E step)
    (covered : (s : paths.Step) → IsStepDemanded (Told tree) [] s → E s → D s ⊎ (s ≡ step)) where
  still : (path : Path) → IsIn D path → IsIn E path
  still [] h = tt
  still (s ∷ path) h = kept s h

  all_sound : AllByRecursion (λ gap. IsGapIn not_allowed tree gap × IsIn E gap.path) (xs ++ map (gap_above (step ∷ [])) ys)
  all_sound =
      all_append (λ gap. IsGapIn not_allowed tree gap × IsIn E gap.path) xs (map (gap_above (step ∷ [])) ys)
      (all_from (λ gap. IsGapIn not_allowed tree gap × IsIn D gap.path) (λ gap. IsGapIn not_allowed tree gap × IsIn E gap.path) xs
      (λ gap h. (h.0, still gap.path h.1)) so_far.sound)
      (all_map (IsGapIn (is_refused (row_of tree) step) inner) (λ gap. IsGapIn not_allowed tree gap × IsIn E gap.path) (gap_above (step ∷ [])) ys
      (λ gap h. (gap_up not_allowed tree inner step gap same asked h, new)) found.sound)

  in_first : (x : Gap) → IsGapIn not_allowed tree x → IsIn D x.path → OneOf (λ y. y ≡ x) (xs ++ map (gap_above (step ∷ [])) ys)
  in_first x h d = one_left (λ y. y ≡ x) xs (map (gap_above (step ∷ [])) ys) (so_far.complete x (h, d))

  in_second : (x : Gap) (path : Path) → x.path ≡ step ∷ path → IsGapIn not_allowed tree x → OneOf (λ y. y ≡ x) (xs ++ map (gap_above (step ∷ [])) ys)
  in_second x path e h =
      let low : Gap = record x { path = path } in
      one_right (λ y. y ≡ x) xs (map (gap_above (step ∷ [])) ys)
      (subst (λ p. OneOf (λ y. y ≡ record x { path = p }) (map (gap_above (step ∷ [])) ys)) (sym e)
      (one_map (λ y. y ≡ low) (λ y. y ≡ gap_above (step ∷ []) low) (gap_above (step ∷ [])) ys (λ y f. ap (gap_above (step ∷ [])) f)
      (found.complete low (gap_down not_allowed tree inner step x path e same h))))

  all_found : (x : Gap) → IsGapIn not_allowed tree x → IsIn E x.path → OneOf (λ y. y ≡ x) (xs ++ map (gap_above (step ∷ [])) ys)
  all_found x h i = ⊎_elim
      (λ e. in_first x h (subst (IsIn D) (sym e) tt))
      (λ (s, path, e). ⊎_elim
      (λ d. in_first x h (subst (IsIn D) (sym e) d))
      (λ is. in_second x path (subst (λ t. x.path ≡ t ∷ path) is e) h)
      (covered s (step_demanded not_allowed tree x s path e h) (subst (IsIn E) e i)))
      (path_cases x.path)

  in_order : (p q : Path) → IsIn D p → path_cmp p (step ∷ q) ≡ Less
  in_order [] q h = refl
  in_order (s ∷ p) q h = ap (λ o. ordering_then o (path_cmp p q)) (before s h)

  all_before : (x : Gap) (zs : List Gap) → IsIn D x.path → AllByRecursion (λ y. path_cmp (place_of x) (place_of y) ≡ Less) (map (gap_above (step ∷ [])) zs)
  all_before x [] h = tt
  all_before x (z ∷ zs) h = (in_order x.path z.path h, all_before x zs h)

  pub extended : UpTo not_allowed tree E (xs ++ map (gap_above (step ∷ [])) ys)
  extended = record {
    sound = all_sound;
    complete = λ x h. all_found x h.0 h.1;
    rising = rising_append place_of xs (map (gap_above (step ∷ [])) ys) so_far.rising
        (rising_lifted place_of (gap_above (step ∷ [])) step (λ x. refl) ys found.rising)
        (all_from (λ gap. IsGapIn not_allowed tree gap × IsIn D gap.path) (λ x. AllByRecursion (λ y. path_cmp (place_of x) (place_of y) ≡ Less) (map (gap_above (step ∷ [])) ys)) xs
        (λ gap h. all_before gap ys h.1) so_far.sound);
  }

-- ---- at the place itself
none_before : (before after : Path) (step : paths.Step) → [] ≡ before ++ step ∷ after → ⊥
none_before [] after step e = cc
none_before (x ∷ before) after step e = cc

pub here_up : (not_allowed : Bool) (tree : Tree Row) (gap : Gap) → IsGapHere not_allowed (row_of tree) gap → IsGapIn not_allowed tree gap
here_up not_allowed (node row children rest) gap h = record {
  demanded = subst (IsDemanded (Told (node row children rest))) (sym h.here) (λ before after step g. absurd (none_before before after step g));
  allowed = subst (λ p. IsBarred not_allowed (Told (node row children rest)) p → ⊥) (sym h.here) (λ b. false≢true (sym h.allowed ∙ b));
  lacking = subst (λ p. IsGapAt (row_at (node row children rest) p) gap.missing) (sym h.here) h.lacking;
}

not_true : (b : Bool) → (b ≡ true → ⊥) → b ≡ false
not_true true h = absurd (h refl)
not_true false h = refl

pub here_down : (not_allowed : Bool) (tree : Tree Row) (gap : Gap) → gap.path ≡ [] → IsGapIn not_allowed tree gap → IsGapHere not_allowed (row_of tree) gap
here_down not_allowed (node row children rest) gap e h = record {
  here = e;
  allowed = not_true not_allowed (subst (λ p. IsBarred not_allowed (Told (node row children rest)) p → ⊥) e h.allowed);
  lacking = subst (λ p. IsGapAt (row_at (node row children rest) p) gap.missing) e h.lacking;
}

-- where no step is demanded of which D holds, the gaps so far are those of the place
pub from_here :
    (not_allowed : Bool) (tree : Tree Row) (D : paths.Step → Type 0) (xs : List Gap) → Lists place_of (IsGapHere not_allowed (row_of tree)) xs
    → ((s : paths.Step) → IsStepDemanded (Told tree) [] s → D s → ⊥) → UpTo not_allowed tree D xs
from_here not_allowed tree D xs h n = record {
  sound = all_from (IsGapHere not_allowed (row_of tree)) (λ gap. IsGapIn not_allowed tree gap × IsIn D gap.path) xs
      (λ gap k. (here_up not_allowed tree gap k, subst (IsIn D) (sym k.here) tt)) h.sound;
  complete = λ x k. ⊎_elim
      (λ e. h.complete x (here_down not_allowed tree x e k.0))
      (λ (s, path, e). absurd (n s (step_demanded not_allowed tree x s path e k.0) (subst (IsIn D) e k.1)))
      (path_cases x.path);
  rising = h.rising;
}

-- with others behind them these are the gaps up to further steps
pub extended_by :
    (not_allowed : Bool) (tree : Tree Row) (D E : paths.Step → Type 0) (P : Gap → Type 0) (xs ys : List Gap) → UpTo not_allowed tree D xs → Lists place_of P ys → ((s : paths.Step) → D s → E s)
    → ((gap : Gap) → P gap → IsGapIn not_allowed tree gap × IsIn E gap.path)
    → ((gap : Gap) (s : paths.Step) (path : Path) → gap.path ≡ s ∷ path → IsGapIn not_allowed tree gap → E s → D s ⊎ P gap)
    → ((p : Path) (gap : Gap) → IsIn D p → P gap → path_cmp p gap.path ≡ Less) → UpTo not_allowed tree E (xs ++ ys)
extended_by not_allowed tree D E P xs ys h k kept sound cover order = record {
  sound = all_append (λ gap. IsGapIn not_allowed tree gap × IsIn E gap.path) xs ys
      (all_from (λ gap. IsGapIn not_allowed tree gap × IsIn D gap.path) (λ gap. IsGapIn not_allowed tree gap × IsIn E gap.path) xs (λ gap g. (g.0, still gap.path g.1)) h.sound)
      (all_from P (λ gap. IsGapIn not_allowed tree gap × IsIn E gap.path) ys sound k.sound);
  complete = λ x g. ⊎_elim
      (λ e. one_left (λ y. y ≡ x) xs ys (h.complete x (g.0, subst (IsIn D) (sym e) tt)))
      (λ (s, path, e). ⊎_elim
      (λ d. one_left (λ y. y ≡ x) xs ys (h.complete x (g.0, subst (IsIn D) (sym e) d)))
      (λ p. one_right (λ y. y ≡ x) xs ys (k.complete x p))
      (cover x s path e g.0 (subst (IsIn E) e g.1)))
      (path_cases x.path);
  rising = rising_append place_of xs ys h.rising k.rising
      (all_from (λ gap. IsGapIn not_allowed tree gap × IsIn D gap.path) (λ x. AllByRecursion (λ y. path_cmp (place_of x) (place_of y) ≡ Less) ys) xs
      (λ x g. all_from P (λ y. path_cmp (place_of x) (place_of y) ≡ Less) ys (λ y p. order x.path y g.1 p) k.sound) h.sound);
} where
  still : (path : Path) → IsIn D path → IsIn E path
  still [] h = tt
  still (s ∷ path) h = kept s h

-- where D holds of all that is demanded, these are all
pub to_end :
    (not_allowed : Bool) (tree : Tree Row) (D : paths.Step → Type 0) (xs : List Gap) → UpTo not_allowed tree D xs
    → ((s : paths.Step) → IsStepDemanded (Told tree) [] s → D s) → Lists place_of (IsGapIn not_allowed tree) xs
to_end not_allowed tree D xs h all = record {
  sound = all_from (λ gap. IsGapIn not_allowed tree gap × IsIn D gap.path) (IsGapIn not_allowed tree) xs (λ gap k. k.0) h.sound;
  complete = λ x k. h.complete x (
    k,
    ⊎_elim
        (λ e. subst (IsIn D) (sym e) tt)
        (λ (s, path, e). subst (IsIn D) (sym e) (all s (step_demanded not_allowed tree x s path e k)))
        (path_cases x.path),
  );
  rising = h.rising;
}

-- with others behind them these are all
pub with_others :
    (not_allowed : Bool) (tree : Tree Row) (D : paths.Step → Type 0) (P : Gap → Type 0) (xs ys : List Gap) → UpTo not_allowed tree D xs → Lists place_of P ys
    → ((gap : Gap) → P gap → IsGapIn not_allowed tree gap)
    → ((gap : Gap) (s : paths.Step) (path : Path) → gap.path ≡ s ∷ path → IsGapIn not_allowed tree gap → D s ⊎ P gap)
    → ((p : Path) (gap : Gap) → IsIn D p → P gap → path_cmp p gap.path ≡ Less) → Lists place_of (IsGapIn not_allowed tree) (xs ++ ys)
with_others not_allowed tree D P xs ys h k sound cover order = record {
  sound = all_append (IsGapIn not_allowed tree) xs ys
      (all_from (λ gap. IsGapIn not_allowed tree gap × IsIn D gap.path) (IsGapIn not_allowed tree) xs (λ gap g. g.0) h.sound)
      (all_from P (IsGapIn not_allowed tree) ys sound k.sound);
  complete = λ x g. ⊎_elim
      (λ e. one_left (λ y. y ≡ x) xs ys (h.complete x (g, subst (IsIn D) (sym e) tt)))
      (λ (s, path, e). ⊎_elim
      (λ d. one_left (λ y. y ≡ x) xs ys (h.complete x (g, subst (IsIn D) (sym e) d)))
      (λ p. one_right (λ y. y ≡ x) xs ys (k.complete x p))
      (cover x s path e g))
      (path_cases x.path);
  rising = rising_append place_of xs ys h.rising k.rising
      (all_from (λ gap. IsGapIn not_allowed tree gap × IsIn D gap.path) (λ x. AllByRecursion (λ y. path_cmp (place_of x) (place_of y) ≡ Less) ys) xs
      (λ x g. all_from P (λ y. path_cmp (place_of x) (place_of y) ≡ Less) ys (λ y p. order x.path y g.1 p) k.sound) h.sound);
}

-- where no step is demanded, the gaps are those of the place
pub here_only :
    (not_allowed : Bool) (tree : Tree Row) (xs : List Gap) → Lists place_of (IsGapHere not_allowed (row_of tree)) xs
    → ((s : paths.Step) → IsStepDemanded (Told tree) [] s → ⊥) → Lists place_of (IsGapIn not_allowed tree) xs
here_only not_allowed tree xs h n = to_end not_allowed tree (λ s. ⊥) xs (from_here not_allowed tree (λ s. ⊥) xs h (λ s d f. f)) (λ s d. n s d)

-- nothing, or the one gap, is what is found at a place
pub none_here : (not_allowed : Bool) (row : Option Row) → ((missing : Bool) → not_allowed ≡ false → IsGapAt row missing → ⊥) → Lists place_of (IsGapHere not_allowed row) []
none_here not_allowed row n = record { sound = tt; complete = λ x h. absurd (n x.missing h.allowed h.lacking); rising = tt }

pub one_here : (row : Option Row) (missing : Bool) → IsGapAt row missing → Lists place_of (IsGapHere false row) (record { path = []; missing = missing } ∷ [])
one_here row missing g = record {
  sound = (record { here = refl; allowed = refl; lacking = g }, tt);
  complete = λ x h. let m : missing ≡ x.missing = same_truth missing x.missing (λ t. h.lacking.missing_is.1 (g.missing_is.0 t)) (λ t. g.missing_is.1 (h.lacking.missing_is.0 t)) in
      inl (λ i. record { path = sym h.here i; missing = m i });
  rising = (tt, tt);
}

-- what a look at a place adds
pub looked_none :
    {X : Type 0} (piece : Gap → List X) (not_allowed : Bool) (row : Option Row) (path : Path) (tally : Tally X)
    → ((missing : Bool) → not_allowed ≡ false → IsGapAt row missing → ⊥) → WritesGapsWhere piece (IsGapHere not_allowed row) path tally tally
looked_none piece not_allowed row path tally n = record { found = []; lists = none_here not_allowed row n; told = grows_none tally }

-- the one gap of a place, and what is told of it
pub only_here : (not_allowed missing : Bool) (row : Option Row) → not_allowed ≡ false → IsGapAt row missing → Lists place_of (IsGapHere not_allowed row) (record { path = []; missing = missing } ∷ [])
only_here not_allowed missing row n g = subst (λ b. Lists place_of (IsGapHere b row) (record { path = []; missing = missing } ∷ [])) (sym n) (one_here row missing g)

pub told_here : {X : Type 0} (piece : Gap → List X) (missing : Bool) (path : Path) → piece (record { path = path; missing = missing }) ≡ gaps_above piece path (record { path = []; missing = missing } ∷ [])
told_here piece missing path =
    let one : Path → Gap = λ place. record { path = place; missing = missing } in
    ap (λ (q : Path). piece (one q)) (sym (append-nil path)) ∙ sym (append-nil (piece (one (path ++ []))))

pub looked_one :
    {X : Type 0} (piece : Gap → List X) (not_allowed missing : Bool) (row : Option Row) (path : Path) (start after : Tally X) → not_allowed ≡ false → IsGapAt row missing
    → WritesPieces start after (piece (record { path = path; missing = missing })) → WritesGapsWhere piece (IsGapHere not_allowed row) path start after
looked_one piece not_allowed missing row path start after n g a = record {
  found = record { path = []; missing = missing } ∷ [];
  lists = only_here not_allowed missing row n g;
  told = subst (WritesPieces start after) (told_here piece missing path) a;
}

-- a gap of the root's tree is one of the table
pub root_gap : (tree : Tree Row) (gap : Gap) → IsGapIn false tree gap → IsReportGap (Told tree) gap
root_gap tree gap k = record {
  demanded = k.demanded;
  has_value = k.lacking.has_value;
  allowed = λ b. k.allowed ((at_root (Told tree) gap.path).1 b);
  missing = k.lacking.missing_is;
  cause = k.lacking.cause;
}

pub gap_of_root : (tree : Tree Row) (gap : Gap) → IsReportGap (Told tree) gap → IsGapIn false tree gap
gap_of_root tree gap k = record {
  demanded = k.demanded;
  allowed = λ b. k.allowed ((at_root (Told tree) gap.path).0 b);
  lacking = record { has_value = k.has_value; missing_is = k.missing; cause = k.cause };
}

-- the gaps found from the root on are those of the table
pub gaps_found : (tree : Tree Row) (xs : List Gap) → Lists place_of (IsGapIn false tree) xs → AreGaps (Told tree) xs
gaps_found tree xs h = record {
  sound = all_from (IsGapIn false tree) (IsReportGap (Told tree)) xs (root_gap tree) h.sound;
  complete = λ x k. h.complete x (gap_of_root tree x k);
  rising = h.rising;
}

-- the place of the root is the whole path
above_root : (xs : List Gap) → map (gap_above []) xs ≡ xs
above_root [] = refl
above_root (x ∷ xs) = ap (λ ys. x ∷ ys) (above_root xs)

pub root_told : {X : Type 0} (piece : Gap → List X) (path : Path) (found : List Gap) → path ≡ [] → gaps_above piece path found ≡ flat_map piece found
root_told piece path found p = ap (λ q. gaps_above piece q found) p ∙ ap (flat_map piece) (above_root found)

-- what a search from the root told is told of the gaps of the table
pub told_from_root :
    {X : Type 0} (piece : Gap → List X) (tree root : Tree Row) (old new : Tally X) (path : Path) → root ≡ tree → path ≡ []
    → WritesGapsWhere piece (IsGapIn false root) path old new → (found : List Gap) × AreGaps (Told tree) found × WritesPieces old new (flat_map piece found)
told_from_root piece tree root old new path r p h = (
  h.found,
  gaps_found tree h.found (subst (λ t. Lists place_of (IsGapIn false t) h.found) r h.lists),
  subst (WritesPieces old new) (root_told piece path h.found p) h.told,
)

-- a search that began with nothing has listed these
pub from_nothing :
    (tree root : Tree Row) (before after : List Gap) (n m : ℕ) (path : Path) → root ≡ tree → before ≡ [] → path ≡ []
    → WritesGapsWhere (λ x. x ∷ []) (IsGapIn false root) path (record { count = n; known = Some before }) (record { count = m; known = Some after }) → AreGaps (Told tree) after
from_nothing tree root before after n m path r b p h =
    let told = told_from_root (λ x. x ∷ []) tree root _ _ path r p h in
    let found : after ≡ told.0 = told.2.known ∙ ap (λ xs. xs ++ flat_map (λ x. x ∷ []) told.0) b ∙ listed told.0 in
    subst (AreGaps (Told tree)) (sym found) told.1
