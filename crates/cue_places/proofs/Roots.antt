-- Places as roots of their own.
use Rattle.std.proofs.Common.{◌≡◌, ◌↔◌, ◌⊎◌, ◌≤◌, inl, inr, ⊎_elim, List, [], ◌∷◌, ◌++◌, Option, Some, None, refl, sym, ap, subst, ◌∙◌, arith}
use Rattle.std.specs.Prelude.{IfSome, IfOk, Result, Ok, Err}
use Rattle.cue_lattice.specs.Limits.{step_limit}
use Rattle.cue_lattice.specs.Path.{Step, Path}
use Rattle.cue_lattice.specs.Question.{Question, Refusals}
use Rattle.cue_policies.specs.View.{IsLevelInView}
use Rattle.cue_policies.proofs.Branches.{added_answer}
use Rattle.cue_policies.proofs.ValidRows.{loose_row}
use Rattle.cue_row.specs.Made.{at_level}
use Rattle.cue_row.specs.Row as rows
use Rattle.cue_row.specs.Row.{RefusesAsked}
use Rattle.cue_row.specs.declared.level.Level.TheVariants.{Optional}
use Rattle.cue_row.specs.declared.parts.RowParts.{RowParts as Row}
use Rattle.cue_table.specs.Depth.{tree_depth}
use Rattle.cue_table.specs.Meet.{IsAdded}
use Rattle.cue_table.specs.Refuses.{RowRefuses}
use Rattle.cue_table.specs.Tree.{Tree, node, empty, row_of, below, rest_below, step_into}
use Rattle.cue_table.proofs.Depth.{depth_with}
use Rattle.cue_places.specs.Places.{IsRootAt}
use Rattle.cue_places.proofs.Seen.{Told, Nothing, below_found, below_none}

step_depth : (tree branch : Tree Row) (step : Step) → step_into tree step ≡ Some branch → tree_depth branch ≤ tree_depth tree
step_depth (node row children rest) branch step e = let less = depth_with rest step children branch e in omega (arith, less)

pub found_limit : (tree : Tree Row) (step : Step) (found : Option (Tree Row)) → tree_depth tree ≤ step_limit → found ≡ step_into tree step → IfSome found (λ next. tree_depth next ≤ step_limit)
found_limit tree step None h e = tt
found_limit tree step (Some next) h e = let less = step_depth tree next step (sym e) in omega (arith, less, h)

-- ---- a place itself
without_row : (tree : Tree Row) (step : Step) (path : Path) (question : Question) → Told (node None (below tree) (rest_below tree)) (step ∷ path) question ↔ Told tree (step ∷ path) question
without_row (node row children rest) step path question = (λ h. h, λ h. h)

no_cons : (s : Step) (p : Path) → s ∷ p ≡ [] → ⊥
no_cons s p e = cc

-- the row of a place is met again, of no level
pub loose_root : (tree old new : Tree Row) (row : Row) → row_of tree ≡ Some row → old ≡ node None (below tree) (rest_below tree) → IsAdded RefusesAsked old [] (at_level Optional row) new
    → IsRootAt (Told tree) [] (Told new)
loose_root tree old new row e bare added [] question =
    let here = added_answer old new (at_level Optional row) added [] question in
    let loose = loose_row row question in
    let none : Told old [] question → ⊥ = λ h. subst (λ t. Told t [] question) bare h in
    let P : Option Row → Type 0 = λ o. RowRefuses rows.RowRefusesQuestion o question in (
      λ h. ⊎_elim (λ o. absurd (none o)) (λ r. let both = loose.0 r.1 in (subst P (sym e) both.0, λ l. both.1 l.1)) (here.0 h),
      λ h. here.1 (inr (refl, loose.1 (subst P e h.0, λ l. h.1 (refl, l)))),
    )
loose_root tree old new row e bare added (step ∷ path) question =
    let here = added_answer old new (at_level Optional row) added (step ∷ path) question in
    let same = without_row tree step path question in
    let P : Tree Row → Type 0 = λ t. Told t (step ∷ path) question in (
      λ h. ⊎_elim (λ o. (same.0 (subst P bare o), λ l. no_cons step path l.0)) (λ r. absurd (no_cons step path r.0)) (here.0 h),
      λ h. here.1 (inl (subst P (sym bare) (same.1 h.0))),
    )

-- without a row the place is as it was
pub bare_root : (tree new : Tree Row) → row_of tree ≡ None → new ≡ node None (below tree) (rest_below tree) → IsRootAt (Told tree) [] (Told new)
bare_root tree new e bare [] question =
    let none : Told new [] question → ⊥ = λ h. subst (λ t. Told t [] question) bare h in
    let P : Option Row → Type 0 = λ o. RowRefuses rows.RowRefusesQuestion o question in
    (λ h. absurd (none h), λ h. absurd (subst P e h.0))
bare_root tree new e bare (step ∷ path) question =
    let same = without_row tree step path question in
    let P : Tree Row → Type 0 = λ t. Told t (step ∷ path) question in
    (λ h. (same.0 (subst P bare h), λ l. no_cons step path l.0), λ h. subst P (sym bare) (same.1 h.0))

-- ---- further below
pub root_found : (tree next : Tree Row) (steps : Path) (step : Step) (path : Path) (root : Refusals) → steps ≡ step ∷ path → step_into tree step ≡ Some next → IsRootAt (Told next) path root
    → IsRootAt (Told tree) steps root
root_found tree next steps step path root cut e h =
    let P : Path → Type 0 = λ p. IsRootAt (Told tree) p root in
    subst P (sym cut) (subst (λ (refuses : Refusals). IsRootAt refuses path root) (sym (below_found tree next step e)) h)

pub root_none : (tree : Tree Row) (steps : Path) (step : Step) (path : Path) (root : Tree Row) → steps ≡ step ∷ path → step_into tree step ≡ None → root ≡ empty → IsRootAt (Told tree) steps (Told root)
root_none tree steps step path root cut e bare =
    let P : Path → Type 0 = λ p. IsRootAt (Told tree) p (Told root) in
    subst P (sym cut) (λ at question. (
      λ h. absurd (nothing at question (subst (λ t. Told t at question) bare h)),
      λ h. absurd (subst (λ (refuses : Refusals). refuses (path ++ at) question) (below_none tree step e) h.0),
    ))
  where
    nothing : (at : Path) (question : Question) → ¬ Told empty at question
    nothing [] question h = h
    nothing (s ∷ at) question h = h

pub root_ok : {E : Type 0} (tree next : Tree Row) (steps : Path) (step : Step) (path : Path) (made : Result (Tree Row) E) → steps ≡ step ∷ path → step_into tree step ≡ Some next
    → IfOk made (λ root. IsRootAt (Told next) path (Told root)) → IfOk made (λ root. IsRootAt (Told tree) steps (Told root))
root_ok tree next steps step path (Ok root) cut e h = root_found tree next steps step path (Told root) cut e h
root_ok tree next steps step path (Err why) cut e h = h
