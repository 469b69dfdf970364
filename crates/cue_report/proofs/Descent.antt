-- One step down from the root: what a table refuses below is what the branch refuses.
use Rattle.std.proofs.Common.{◌≡◌, ◌↔◌, ℕ, false, List, [], ◌∷◌, ◌++◌, Option, None, Some, refl, sym, ap, subst, ◌∙◌}
use Rattle.std.specs.Bool.{IsTrue}
use Rattle.std.specs.Option.{option_and_then}
use Rattle.std.proofs.lemmas.Bool.{false≢true}
use Rattle.cue_lattice.specs.Path as paths
use Rattle.cue_lattice.specs.Path.{label, index, Path}
use Rattle.cue_lattice.specs.Question.{Question, Refusals, allows, level_at_most, length_at_most}
use Rattle.cue_row.specs.declared.parts.RowParts.{RowParts as Row}
use Rattle.cue_row.specs.Row as rows
use Rattle.cue_table.specs.Refuses.{TableRefuses}
use Rattle.cue_table.specs.Tree.{Tree, empty, row_of, step_into, branch_at, row_at}
use Rattle.cue_report.specs.Answers.{path_below, IsStepDemanded, IsDemanded, IsNotAllowed}
use Rattle.cue_report.specs.Inner.GapSearch.{IsBarred}
use Rattle.cue_report.specs.Inner.Search.{is_demanded, is_refused}
use Rattle.cue_report.proofs.Rows.{RefusedAt, level_is, longer_is, refused_is, index_allowed}

-- what a tree refuses
abbrev pub Told : Tree Row → Refusals
Told = TableRefuses rows.RowRefusesQuestion

-- the row below is that of the branch
pub row_below : (tree inner : Tree Row) (step : paths.Step) (path : Path) → step_into tree step ≡ Some inner → row_at tree (step ∷ path) ≡ row_at inner path
row_below tree inner step path f = ap (λ found. option_and_then row_of (option_and_then (λ branch. branch_at branch path) found)) f

no_row_below : (tree : Tree Row) (step : paths.Step) (path : Path) → step_into tree step ≡ None → row_at tree (step ∷ path) ≡ None
no_row_below tree step path f = ap (λ found. option_and_then row_of (option_and_then (λ branch. branch_at branch path) found)) f

-- what stands below the step of a tree is what stands in the branch
abbrev pub IsSeen : Tree Row → Tree Row → paths.Step → Type 0
IsSeen tree inner step = (path : Path) → row_at tree (step ∷ path) ≡ row_at inner path

pub seen : (tree inner : Tree Row) (step : paths.Step) → step_into tree step ≡ Some inner → IsSeen tree inner step
seen tree inner step f path = row_below tree inner step path f

-- where there is no branch, it is as if there were one without rows
pub seen_empty : (tree : Tree Row) (step : paths.Step) → step_into tree step ≡ None → IsSeen tree empty step
seen_empty tree step f [] = no_row_below tree step [] f
seen_empty tree step f (next ∷ path) = no_row_below tree step (next ∷ path) f

-- where there is no branch, nothing is refused
pub open_below : (tree : Tree Row) (step : paths.Step) (path : Path) (question : Question) → step_into tree step ≡ None → Told tree (step ∷ path) question → ⊥
open_below tree step path question f h = let P : Option Row → Type 0 = λ row. RefusedAt row question in subst P (no_row_below tree step path f) h

heads : (s t : paths.Step) (p q : Path) → s ∷ p ≡ t ∷ q → s ≡ t
heads s t p q e = cc

tails : (s t : paths.Step) (p q : Path) → s ∷ p ≡ t ∷ q → p ≡ q
tails s t p q e = cc

not_nil : (p : Path) (s : paths.Step) → [] ≡ p ++ s ∷ [] → ⊥
not_nil [] s e = cc
not_nil (x ∷ p) s e = cc

module _ (tree inner : Tree Row) (step : paths.Step) (same : IsSeen tree inner step) where
  pub down : (path : Path) (question : Question) → Told tree (step ∷ path) question → Told inner path question
  down path question h = let P : Option Row → Type 0 = λ row. RefusedAt row question in subst P (same path) h

  pub up : (path : Path) (question : Question) → Told inner path question → Told tree (step ∷ path) question
  up path question h = let P : Option Row → Type 0 = λ row. RefusedAt row question in subst P (sym (same path)) h

  step_down : (before : Path) (next : paths.Step) → IsStepDemanded (Told tree) (step ∷ before) next → IsStepDemanded (Told inner) before next
  step_down before (label text) h = down (before ++ label text ∷ []) (level_at_most 0) h
  step_down before (index n) h = down before (length_at_most n) h

  step_up : (before : Path) (next : paths.Step) → IsStepDemanded (Told inner) before next → IsStepDemanded (Told tree) (step ∷ before) next
  step_up before (label text) h = up (before ++ label text ∷ []) (level_at_most 0) h
  step_up before (index n) h = up before (length_at_most n) h

  -- what is demanded below a branch is demanded below the tree, where the step to the branch is
  pub demanded_down : (path : Path) → IsDemanded (Told tree) (step ∷ path) → IsDemanded (Told inner) path
  demanded_down path h before after next e = step_down before next (h (step ∷ before) after next (ap (λ p. step ∷ p) e))

  pub demanded_up : (path : Path) → IsStepDemanded (Told tree) [] step → IsDemanded (Told inner) path → IsDemanded (Told tree) (step ∷ path)
  demanded_up path first h [] after next e = subst (IsStepDemanded (Told tree) []) (heads step next path after e) first
  demanded_up path first h (x ∷ before) after next e =
      let P : paths.Step → Type 0 = λ s. IsStepDemanded (Told tree) (s ∷ before) next in
      subst P (heads step x path (before ++ next ∷ after) e) (step_up before next (h before after next (tails step x path (before ++ next ∷ after) e)))

  -- so is what is not allowed, past the branch
  pub barred_down : (next : paths.Step) (path : Path) → IsNotAllowed (Told tree) (step ∷ next ∷ path) → IsNotAllowed (Told inner) (next ∷ path)
  barred_down next path (above, text, e, r) = cases above e r where
    cases : (above : Path) → step ∷ next ∷ path ≡ path_below above (label text) → Told tree above (allows text) → IsNotAllowed (Told inner) (next ∷ path)
    cases [] e r = absurd (not_nil [] next (sym (tails step (label text) (next ∷ path) [] e) ∙ nothing_more e)) where
      nothing_more : step ∷ next ∷ path ≡ label text ∷ [] → next ∷ path ≡ [] ++ next ∷ []
      nothing_more e = cc
    cases (x ∷ above) e r =
        let P : paths.Step → Type 0 = λ s. Told tree (s ∷ above) (allows text) in
        (above, text, tails step x (next ∷ path) (above ++ label text ∷ []) e, down above (allows text) (subst P (sym (heads step x (next ∷ path) (above ++ label text ∷ []) e)) r))

  pub barred_up : (path : Path) → IsNotAllowed (Told inner) path → IsNotAllowed (Told tree) (step ∷ path)
  barred_up path (above, text, e, r) = (step ∷ above, text, ap (λ p. step ∷ p) e, up above (allows text) r)

-- whether the first step is demanded is what the rows say
pub first_demanded : (tree inner : Tree Row) (step : paths.Step) → IsSeen tree inner step → IsTrue (is_demanded (row_of tree) step (row_of inner)) ↔ IsStepDemanded (Told tree) [] step
first_demanded tree inner (label text) same =
    let P : Option Row → Type 0 = λ row. RefusedAt row (level_at_most 0) in
    (λ h. subst P (sym (same [])) ((level_is (row_of inner)).0 h), λ h. (level_is (row_of inner)).1 (subst P (same []) h))
first_demanded tree inner (index n) same = longer_is (row_of tree) n

-- and whether its label is refused
pub first_refused : (tree : Tree Row) (step : paths.Step) → IsTrue (is_refused (row_of tree) step) ↔ IsNotAllowed (Told tree) (step ∷ [])
first_refused tree (label text) = (
  λ h. ([], text, refl, (refused_is (row_of tree) text).0 h),
  λ h. (refused_is (row_of tree) text).1 (at_root h),
) where
  same_text : (m : List ℕ) → label text ∷ [] ≡ label m ∷ [] → m ≡ text
  same_text m e = cc

  cases : (above : Path) (m : List ℕ) → label text ∷ [] ≡ path_below above (label m) → Told tree above (allows m) → Told tree [] (allows text)
  cases [] m e r = let P : List ℕ → Type 0 = λ t. Told tree [] (allows t) in subst P (same_text m e) r
  cases (x ∷ above) m e r = absurd (not_nil above (label m) (tails (label text) x [] (above ++ label m ∷ []) e))

  at_root : IsNotAllowed (Told tree) (label text ∷ []) → Told tree [] (allows text)
  at_root (above, m, e, r) = cases above m e r
first_refused tree (index n) = (
  λ h. absurd (false≢true (sym (index_allowed (row_of tree) n) ∙ h)),
  λ h. absurd (none h),
) where
  other : (m : List ℕ) → index n ∷ [] ≡ label m ∷ [] → ⊥
  other m e = cc

  cases : (above : Path) (m : List ℕ) → index n ∷ [] ≡ path_below above (label m) → ⊥
  cases [] m e = other m e
  cases (x ∷ above) m e = not_nil above (label m) (tails (index n) x [] (above ++ label m ∷ []) e)

  none : IsNotAllowed (Told tree) (index n ∷ []) → ⊥
  none (above, m, e, r) = cases above m e

-- the label of a place below is refused, seen from the branch
pub barred_below : (tree inner : Tree Row) (step : paths.Step) (path : Path) → IsSeen tree inner step → IsBarred (is_refused (row_of tree) step) (Told inner) path ↔ IsNotAllowed (Told tree) (step ∷ path)
barred_below tree inner step [] same = first_refused tree step
barred_below tree inner step (next ∷ path) same = (λ h. barred_up tree inner step same (next ∷ path) h, λ h. barred_down tree inner step same next path h)

-- the root has no label
pub root_allowed : (refuses : Refusals) → IsNotAllowed refuses [] → ⊥
root_allowed refuses (above, text, e, r) = not_nil above (label text) e

-- seen from the root
pub at_root : (refuses : Refusals) (path : Path) → IsBarred false refuses path ↔ IsNotAllowed refuses path
at_root refuses [] = (λ h. absurd (false≢true h), λ h. absurd (root_allowed refuses h))
at_root refuses (step ∷ path) = (λ h. h, λ h. h)
