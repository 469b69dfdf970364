-- Declared paths, step by step.
use Rattle.std.proofs.Common.{◌≡◌, ◌↔◌, ◌<◌, ℕ, true, false, List, [], ◌∷◌, ◌++◌, Option, Some, None, refl, sym, ap, subst, ◌∙◌}
use Rattle.std.specs.Prelude.{IsTrue}
use Rattle.std.specs.Option.{is_some}
use Rattle.std.proofs.lemmas.Bool.{false≢true}
use Rattle.cue_lattice.specs.Path.{Step, label, index, Path}
use Rattle.cue_lattice.specs.Question.{Question, Refusals, length_at_most}
use Rattle.cue_report.specs.Export.{refused_below}
use Rattle.cue_row.specs.Questions.{question_of}
use Rattle.cue_row.specs.Row as rows
use Rattle.cue_row.specs.Row.{RefusesAsked, IsRow}
use Rattle.cue_row.specs.declared.parts.RowParts.{RowParts as Row}
use Rattle.cue_table.specs.Form.{IsRowKept, IsTable}
use Rattle.cue_table.specs.Refuses.{RowRefuses, TableRefuses}
use Rattle.cue_table.specs.Tree.{Tree, row_of, row_at, step_into}
use Rattle.cue_table.proofs.Depth.{taken_row, kept_at}
use Rattle.cue_table.proofs.Finding.{found_form}
use Rattle.cue_places.specs.Places.{IsStepDeclared, IsDeclaredPlace}
use Rattle.cue_places.proofs.Lists.{not_nil}
use Rattle.cue_places.proofs.Seen.{Told, Nothing, below_found, below_none}

pub root_declared : (refuses : Refusals) → IsDeclaredPlace refuses []
root_declared refuses before after step e = absurd (not_nil before step after e)

deeper : (refuses : Refusals) (step : Step) (before : Path) (next : Step) → IsStepDeclared refuses (step ∷ before) next → IsStepDeclared (refused_below refuses step) before next
deeper refuses step before (label text) h = h
deeper refuses step before (index n) h = h

higher : (refuses : Refusals) (step : Step) (before : Path) (next : Step) → IsStepDeclared (refused_below refuses step) before next → IsStepDeclared refuses (step ∷ before) next
higher refuses step before (label text) h = h
higher refuses step before (index n) h = h

pub declared_further : (refuses : Refusals) (step : Step) (path : Path) → IsDeclaredPlace refuses (step ∷ path) ↔ (IsStepDeclared refuses [] step × IsDeclaredPlace (refused_below refuses step) path)
declared_further refuses step path = (
  λ h. (h [] path step refl, λ before after next e. deeper refuses step before next (h (step ∷ before) after next (ap (λ p. step ∷ p) e))),
  out,
)
  where
    out : IsStepDeclared refuses [] step × IsDeclaredPlace (refused_below refuses step) path → IsDeclaredPlace refuses (step ∷ path)
    out h [] after next e =
        let same : step ≡ next = cc in
        subst (IsStepDeclared refuses []) same h.0
    out h (x ∷ before) after next e =
        let same : step ≡ x = cc in
        let rest : path ≡ before ++ next ∷ after = cc in
        subst (λ s. IsStepDeclared refuses (s ∷ before) next) same (higher refuses step before next (h.1 before after next rest))

-- below a place of which nothing is known only the place itself is declared
nothing_declared : (path : Path) → IsDeclaredPlace Nothing path → path ≡ []
nothing_declared [] h = refl
nothing_declared (label text ∷ path) h = absurd (h [] path (label text) refl (λ below question r. r))
nothing_declared (index n ∷ path) h = absurd (h [] path (index n) refl)

-- ---- a step
pub label_found : (tree next : Tree Row) (text : List ℕ) → IsTable RefusesAsked IsRow tree → step_into tree (label text) ≡ Some next → IsStepDeclared (Told tree) [] (label text)
label_found tree next text form e non =
    let good = found_form (IsRowKept RefusesAsked IsRow) (label text) tree next form e in
    let some = taken_row (IsRowKept RefusesAsked IsRow) next good.0 good.1 in
    (kept_at (IsRowKept RefusesAsked IsRow) next some.0 some.1 good.1 some.2).1 (λ question r.
    let here : Told next some.0 (question_of question) = subst (λ o. RowRefuses rows.RowRefusesQuestion o (question_of question)) (sym some.2) r in
    non some.0 (question_of question) (subst (λ (refuses : Refusals). refuses some.0 (question_of question)) (sym (below_found tree next (label text) e)) here))

pub label_none : (tree : Tree Row) (text : List ℕ) → step_into tree (label text) ≡ None → ¬ IsStepDeclared (Told tree) [] (label text)
label_none tree text e h = h (λ below question r. subst (λ (refuses : Refusals). refuses below question) (below_none tree (label text) e) r)

pub step_label : (tree : Tree Row) (step : Step) (text : List ℕ) (found : Option (Tree Row)) → IsTable RefusesAsked IsRow tree → step ≡ label text → found ≡ step_into tree step
    → IsTrue (is_some found) ↔ IsStepDeclared (Told tree) [] step
step_label tree step text found form is e =
    let P : Step → Type 0 = λ s. found ≡ step_into tree s → IsTrue (is_some found) ↔ IsStepDeclared (Told tree) [] s in
    subst P (sym is) (by found) e
  where
    by : (found : Option (Tree Row)) → found ≡ step_into tree (label text) → IsTrue (is_some found) ↔ IsStepDeclared (Told tree) [] (label text)
    by None f = (λ t. absurd (false≢true t), λ h. absurd (label_none tree text (sym f) h))
    by (Some next) f = (λ t. label_found tree next text form (sym f), λ h. refl)

pub step_index : (tree : Tree Row) (step : Step) (n : ℕ) (row : Row) → step ≡ index n → row_of tree ≡ Some row → (n < row.least) ↔ IsStepDeclared (Told tree) [] step
step_index tree step n row is e =
    let P : Step → Type 0 = λ s. (n < row.least) ↔ IsStepDeclared (Told tree) [] s in
    let Q : Option Row → Type 0 = λ o. (n < row.least) ↔ RowRefuses rows.RowRefusesQuestion o (length_at_most n) in
    subst P (sym is) (subst Q (sym e) (λ h. h, λ h. h))

pub step_index_none : (tree : Tree Row) (step : Step) (n : ℕ) → step ≡ index n → row_of tree ≡ None → ¬ IsStepDeclared (Told tree) [] step
step_index_none tree step n is e h =
    let P : Step → Type 0 = λ s. IsStepDeclared (Told tree) [] s in
    let Q : Option Row → Type 0 = λ o. RowRefuses rows.RowRefusesQuestion o (length_at_most n) in
    subst Q e (subst P is h)

-- ---- a path
pub declared_found : (tree next : Tree Row) (steps : Path) (step : Step) (path : Path) → steps ≡ step ∷ path → step_into tree step ≡ Some next → IsStepDeclared (Told tree) [] step
    → IsDeclaredPlace (Told tree) steps ↔ IsDeclaredPlace (Told next) path
declared_found tree next steps step path cut e first =
    let all = declared_further (Told tree) step path in
    let same = below_found tree next step e in
    let P : Path → Type 0 = λ p. IsDeclaredPlace (Told tree) p ↔ IsDeclaredPlace (Told next) path in
    subst P (sym cut) (
      λ h. subst (λ (refuses : Refusals). IsDeclaredPlace refuses path) same (all.0 h).1,
      λ h. all.1 (first, subst (λ (refuses : Refusals). IsDeclaredPlace refuses path) (sym same) h),
    )

pub declared_none : (tree : Tree Row) (steps : Path) (step : Step) (path : Path) → steps ≡ step ∷ path → step_into tree step ≡ None → IsStepDeclared (Told tree) [] step
    → IsDeclaredPlace (Told tree) steps ↔ (path ≡ [])
declared_none tree steps step path cut e first =
    let all = declared_further (Told tree) step path in
    let same = below_none tree step e in
    let P : Path → Type 0 = λ p. IsDeclaredPlace (Told tree) p ↔ (path ≡ []) in
    subst P (sym cut) (
      λ h. nothing_declared path (subst (λ (refuses : Refusals). IsDeclaredPlace refuses path) same (all.0 h).1),
      λ h. all.1 (first, subst (IsDeclaredPlace (refused_below (Told tree) step)) (sym h) (root_declared (refused_below (Told tree) step))),
    )

pub not_declared : (refuses : Refusals) (steps : Path) (step : Step) (path : Path) → steps ≡ step ∷ path → ¬ IsStepDeclared refuses [] step → ¬ IsDeclaredPlace refuses steps
not_declared refuses steps step path cut non h = non (subst (IsDeclaredPlace refuses) cut h [] path step refl)
