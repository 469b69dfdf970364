-- What the row of a place says of it.
use Rattle.std.proofs.Common.{◌≡◌, ◌↔◌, ◌⊎◌, inl, inr, ⊎_elim, Bool, true, false, not, List, ℕ, [], ◌∷◌, ◌++◌, Option, Some, None, refl, sym, ap, subst, ◌∙◌}
use Rattle.std.specs.Prelude.{IsTrue}
use Rattle.std.proofs.lemmas.Bool.{false≢true}
use Rattle.cue_lattice.specs.Path as paths
use Rattle.cue_lattice.specs.Path.{label, index}
use Rattle.cue_lattice.specs.Question.{Refusals, allows}
use Rattle.cue_report.specs.Answers.{HasNoValue, IsNotAllowed}
use Rattle.cue_report.specs.Inner.Search.{lacks_value, has_no_value}
use Rattle.cue_report.proofs.Empty.{refused, refused_empty, empty_members}
use Rattle.cue_report.proofs.Rows.{no_value_is}
use Rattle.cue_row.specs.Kinds.{IsEmptySet}
use Rattle.cue_row.specs.LabelSets.{allows_label}
use Rattle.cue_row.specs.Row as rows
use Rattle.cue_row.specs.Row.{RefusesAsked, IsRow}
use Rattle.cue_row.specs.declared.parts.RowParts.{RowParts as Row}
use Rattle.cue_table.specs.Form.{IsTable}
use Rattle.cue_table.specs.Refuses.{RowRefuses}
use Rattle.cue_table.specs.Tree.{Tree, node, row_of, step_into}
use Rattle.cue_places.specs.Places.{HasNoKind}
use Rattle.cue_places.specs.Inner.Bars.{at_row}
use Rattle.cue_places.proofs.Lists.{not_nil}
use Rattle.cue_places.proofs.Seen.{Told, Nothing, below_found, below_none}

pub no_kind_is : (row : Row) (empty : Bool) → IsRow row → row.list_ok ≡ false → row.struct_ok ≡ false → IsTrue empty ↔ IsEmptySet row.value → IsTrue empty ↔ HasNoKind (at_row row) []
no_kind_is row empty form l s e = (
  λ t. (refused row.value (e.0 t), s, l),
  λ h. e.1 (empty_members row.value (refused_empty row.value form.value h.0)),
)

-- ---- a place without a row
pub none_value : (tree : Tree Row) → row_of tree ≡ None → IsTrue false ↔ HasNoValue (Told tree) []
none_value tree e =
    let P : Option Row → Type 0 = λ row. IsTrue (has_no_value row) ↔ HasNoValue (λ path. RowRefuses rows.RowRefusesQuestion row) [] in
    let Q : Option Row → Type 0 = λ row. IsTrue false ↔ HasNoValue (λ path. RowRefuses rows.RowRefusesQuestion row) [] in
    subst Q (sym e) (no_value_is None tt)

pub some_value : (tree : Tree Row) (row : Row) (found : Bool) → row_of tree ≡ Some row → IsRow row → found ≡ lacks_value row → IsTrue found ↔ HasNoValue (Told tree) []
some_value tree row found e form is =
    let Q : Option Row → Type 0 = λ r. IsTrue found ↔ HasNoValue (λ path. RowRefuses rows.RowRefusesQuestion r) [] in
    let here = no_value_is (Some row) form in
    subst Q (sym e) (λ t. here.0 (sym is ∙ t), λ h. is ∙ here.1 h)

pub value_below : (tree next : Tree Row) (step : paths.Step) (found : Bool) → step_into tree step ≡ Some next → IsTrue found ↔ HasNoValue (Told next) [] → IsTrue found ↔ HasNoValue (Told tree) (step ∷ [])
value_below tree next step found e h =
    subst (λ (refuses : Refusals). IsTrue found ↔ HasNoValue refuses []) (sym (below_found tree next step e)) h

nothing_value : ¬ HasNoValue Nothing []
nothing_value (inl h) = h.1
nothing_value (inr h) = ⊎_elim (λ x. x) (λ y. y) (h.1 0)

pub no_value_below : (tree : Tree Row) (step : paths.Step) → step_into tree step ≡ None → IsTrue false ↔ HasNoValue (Told tree) (step ∷ [])
no_value_below tree step e =
    subst (λ (refuses : Refusals). IsTrue false ↔ HasNoValue refuses []) (sym (below_none tree step e)) (λ t. absurd (false≢true t), λ h. absurd (nothing_value h))

-- ---- the label of a step
last_label : (refuses : Refusals) (text : List ℕ) → IsNotAllowed refuses (label text ∷ []) ↔ refuses [] (allows text)
last_label refuses text = (λ h. into h.0 h.1 h.2 h.3, λ r. ([], text, refl, r))
  where
    into : (above : paths.Path) (other : List ℕ) → label text ∷ [] ≡ above ++ label other ∷ [] → refuses above (allows other) → refuses [] (allows text)
    into [] other e r = let same : text ≡ other = cc in subst (λ t. refuses [] (allows t)) (sym same) r
    into (x ∷ above) other e r = let rest : [] ≡ above ++ label other ∷ [] = cc in absurd (not_nil above (label other) [] rest)

last_index : (refuses : Refusals) (n : ℕ) → ¬ IsNotAllowed refuses (index n ∷ [])
last_index refuses n h = by h.0 h.1 h.2
  where
    by : (above : paths.Path) (other : List ℕ) → index n ∷ [] ≡ above ++ label other ∷ [] → ⊥
    by [] other e = cc
    by (x ∷ above) other e = let rest : [] ≡ above ++ label other ∷ [] = cc in not_nil above (label other) [] rest

pub index_allowed : (tree : Tree Row) (step : paths.Step) (n : ℕ) → step ≡ index n → ¬ IsNotAllowed (Told tree) (step ∷ [])
index_allowed tree step n e h = last_index (Told tree) n (subst (λ s. IsNotAllowed (Told tree) (s ∷ [])) e h)

pub label_none : (tree : Tree Row) (step : paths.Step) (text : List ℕ) → step ≡ label text → row_of tree ≡ None → ¬ IsNotAllowed (Told tree) (step ∷ [])
label_none tree step text e none h =
    let at = (last_label (Told tree) text).0 (subst (λ s. IsNotAllowed (Told tree) (s ∷ [])) e h) in
    subst (λ row. RowRefuses rows.RowRefusesQuestion row (allows text)) none at

not_is : (b : Bool) → IsTrue (not b) ↔ (b ≡ false)
not_is true = (λ t. absurd (false≢true t), λ e. absurd (false≢true (sym e)))
not_is false = (λ t. refl, λ e. refl)

pub label_some : (tree : Tree Row) (step : paths.Step) (text : List ℕ) (row : Row) (found : Bool) → step ≡ label text → row_of tree ≡ Some row → found ≡ allows_label row.labels text
    → IsTrue (not found) ↔ IsNotAllowed (Told tree) (step ∷ [])
label_some tree step text row found e some is =
    let P : paths.Step → Type 0 = λ s. IsTrue (not found) ↔ IsNotAllowed (Told tree) (s ∷ []) in
    subst P (sym e) (λ t. at.1 (sym is ∙ (not_is found).0 t), λ h. (not_is found).1 (is ∙ at.0 h))
  where
    at : IsNotAllowed (Told tree) (label text ∷ []) ↔ (allows_label row.labels text ≡ false)
    at =
        let last = last_label (Told tree) text in
        let P : Option Row → Type 0 = λ r. RowRefuses rows.RowRefusesQuestion r (allows text) in
        (λ h. subst P some (last.0 h), λ r. last.1 (subst P (sym some) r))

-- the row of a place in form is one
pub row_kept : (tree : Tree Row) (row : Row) → IsTable RefusesAsked IsRow tree → row_of tree ≡ Some row → IsRow row
row_kept (node None children rest) row form e = cc
row_kept (node (Some own) children rest) row form e = let same : own ≡ row = cc in subst IsRow same form.0.0
