-- The gaps of branches that are kept as one.
use Rattle.std.proofs.Common.{◌≡◌, ℕ, min, ◌+◌, true, false, List, [], ◌∷◌, ◌++◌, map, Option, refl, sym, ap, subst, ◌∙◌, arith}
use Rattle.std.proofs.lemmas.Bool.{false≢true}
use Rattle.cue_lattice.specs.OneOf.{OneOf}
use Rattle.cue_lattice.specs.Path as paths
use Rattle.cue_lattice.specs.Path.{index, Path}
use Rattle.cue_row.specs.declared.parts.RowParts.{RowParts as Row}
use Rattle.cue_table.specs.Spans.{alike_elements}
use Rattle.cue_table.specs.StepsOfCode.{step_at}
use Rattle.cue_table.specs.declared.step_ref.StepRef.{StepRef}
use Rattle.cue_table.specs.Tree.{Tree, none, child, row_of}
use Rattle.cue_report.specs.Inner.GapSearch.{IsGapIn, IsGapAmong, IsGapBelow, WritesGapsWhere, gap_above}
use Rattle.cue_report.specs.Inner.Search.{is_demanded, is_refused, least_at}
use Rattle.cue_report.specs.Telling.{Tally}
use Rattle.cue_report.specs.Inner.Telling.{WritesPieces}
use Rattle.cue_report.specs.declared.gap.Gap.{Gap}
use Rattle.cue_report.proofs.Found.{found_first}
use Rattle.cue_report.proofs.FoundGaps.{place_of}
use Rattle.cue_report.proofs.GapRests.{same_added}
use Rattle.cue_report.proofs.GapTelling.{pushed_is}
use Rattle.cue_report.proofs.Order.{all_map, one_map, rising_lifted}
use Rattle.cue_report.proofs.Rows.{index_allowed, is_below, is_long}
use Rattle.cue_report.proofs.SpanSteps.{alike_at, alike_is, only_branch}
use Rattle.cue_report.proofs.Telling.{grows_none}
use Rattle.cue_report.proofs.Walk.{pushed_on}

-- a gap of a field
pub field_up : (row : Option Row) (step : paths.Step) (tree : Tree Row) → is_demanded row step (row_of tree) ≡ true
    → (gap : Gap) → IsGapIn (is_refused row step) tree gap → IsGapBelow row (child step tree none) (gap_above (step ∷ []) gap)
field_up row step tree d gap h = record { step = step; tree = tree; path = gap.path; is = refl; found = found_first step tree none; demanded = d; inner = h }

-- and the way to it
pub field_is : (row : Option Row) (step : paths.Step) (tree : Tree Row) (gap : Gap) → IsGapBelow row (child step tree none) gap
    → (path : Path) × (gap.path ≡ step ∷ path) × IsGapIn (is_refused row step) tree (record gap { path = path })
field_is row step tree gap h =
    let is = only_branch h.step step tree h.tree h.found in (
      h.path,
      h.is ∙ ap (λ k. k ∷ h.path) is.0,
      subst (λ k. IsGapIn (is_refused row k) tree (record gap { path = h.path })) is.0 (subst (λ u. IsGapIn (is_refused row h.step) u (record gap { path = h.path })) is.1 h.inner),
    )

-- a field was looked at
pub field_added :
    {X : Type 0} (piece : Gap → List X) (row : Option Row) (step : paths.Step) (tree : Tree Row) (now after : Tally X) (steps pushed : List StepRef) (x : StepRef)
    → is_demanded row step (row_of tree) ≡ true → step_at x ≡ step → pushed ≡ steps ++ x ∷ [] → WritesGapsWhere piece (IsGapIn (is_refused row step) tree) (map step_at pushed) now after
    → WritesGapsWhere piece (IsGapBelow row (child step tree none)) (map step_at steps) now after
field_added piece row step tree now after steps pushed x d s p adds =
    let path : Path = map step_at steps in
    record {
      found = map (gap_above (step ∷ [])) adds.found;
      lists = record {
        sound = all_map (IsGapIn (is_refused row step) tree) (IsGapBelow row (child step tree none)) (gap_above (step ∷ [])) adds.found (field_up row step tree d) adds.lists.sound;
        complete = complete;
        rising = rising_lifted place_of (gap_above (step ∷ [])) step (λ x. refl) adds.found adds.lists.rising;
      };
      told = subst (WritesPieces now after) (pushed_is piece path (map step_at pushed) step adds.found (pushed_on steps steps pushed x p refl ∙ ap (λ z. path ++ z ∷ []) s)) adds.told;
    }
  where
    complete : (gap : Gap) → IsGapBelow row (child step tree none) gap → OneOf (λ y. y ≡ gap) (map (gap_above (step ∷ [])) adds.found)
    complete gap h =
        let at = field_is row step tree gap h in
        let inner : Gap = record gap { path = at.0 } in
        subst (λ q. OneOf (λ y. y ≡ record gap { path = q }) (map (gap_above (step ∷ [])) adds.found)) (sym at.1)
        (one_map (λ y. y ≡ inner) (λ y. y ≡ gap_above (step ∷ []) inner) (gap_above (step ∷ [])) adds.found (λ y f. ap (gap_above (step ∷ [])) f) (adds.lists.complete inner at.2))

-- or passed over
pub field_unasked :
    {X : Type 0} (piece : Gap → List X) (row : Option Row) (step : paths.Step) (tree : Tree Row) (path : Path) (now : Tally X) → is_demanded row step (row_of tree) ≡ false
    → WritesGapsWhere piece (IsGapBelow row (child step tree none)) path now now
field_unasked piece row step tree path now d = record {
  found = [];
  lists = record { sound = tt; complete = λ gap h. absurd (none_asked h.step h.tree (only_branch h.step step tree h.tree h.found) h.demanded); rising = tt };
  told = grows_none now;
} where
  none_asked : (s : paths.Step) (t : Tree Row) → (s ≡ step) × (t ≡ tree) → is_demanded row s (row_of t) ≡ true → ⊥
  none_asked s t is a = false≢true (sym d ∙ subst (λ u. is_demanded row step (row_of u) ≡ true) is.1 (subst (λ k. is_demanded row k (row_of t) ≡ true) is.0 a))

-- the elements that each list has, and the branches that are kept as one
module _ (row : Option Row) (first more end : ℕ) (tree : Tree Row) (e : end ≡ min (least_at row) (first + more + 1)) where
  pub run_up : (gap : Gap) → IsGapAmong first end tree gap → IsGapBelow row (alike_elements first more tree none) gap
  run_up gap h = record {
    step = index h.number;
    tree = tree;
    path = h.path;
    is = h.is;
    found = alike_at first more h.number tree none h.within.0 (omega (arith, h.within.1, e));
    demanded = is_long row h.number (omega (arith, h.within.1, e));
    inner = subst (λ b. IsGapIn b tree (record gap { path = h.path })) (sym (index_allowed row h.number)) h.inner;
  }

  pub run_down : (gap : Gap) → IsGapBelow row (alike_elements first more tree none) gap → IsGapAmong first end tree gap
  run_down gap h =
      let at = alike_is h.step first more tree h.tree h.found in
      let long = is_below row at.number (subst (λ s. is_demanded row s (row_of h.tree) ≡ true) at.is h.demanded) in
      record {
        number = at.number;
        within = (at.least, omega (arith, at.most, long, e));
        path = h.path;
        is = h.is ∙ ap (λ s. s ∷ h.path) at.is;
        inner = subst (λ b. IsGapIn b tree (record gap { path = h.path })) (index_allowed row at.number)
            (subst (λ s. IsGapIn (is_refused row s) tree (record gap { path = h.path })) at.is (subst (λ t. IsGapIn (is_refused row h.step) t (record gap { path = h.path })) at.same h.inner));
      }

-- they were looked at
pub run_added :
    {X : Type 0} (piece : Gap → List X) (row : Option Row) (first more end : ℕ) (tree : Tree Row) (path : Path) (now after : Tally X) → end ≡ min (least_at row) (first + more + 1)
    → WritesGapsWhere piece (IsGapAmong first end tree) path now after → WritesGapsWhere piece (IsGapBelow row (alike_elements first more tree none)) path now after
run_added piece row first more end tree path now after e adds =
    same_added piece (IsGapAmong first end tree) (IsGapBelow row (alike_elements first more tree none)) path now after (run_up row first more end tree e) (run_down row first more end tree e) adds
