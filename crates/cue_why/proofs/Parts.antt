-- The parts of a place, one step further, and what they refuse.
use Rattle.std.proofs.Common.{◌≡◌, ◌↔◌, ◌⊎◌, inl, inr, ⊎_elim, ℕ, ◌<◌, List, [], ◌∷◌, ◌++◌, Option, Some, None, refl, sym, ap, subst, ◌∙◌, arith}
use Rattle.std.specs.Option.{option_and_then}
use Rattle.cue_lattice.specs.OneOf.{OneOf}
use Rattle.cue_lattice.specs.Path.{Step, label, index, Path}
use Rattle.cue_lattice.specs.Question.{Question, may_be, usual, struct, list, allows, level_at_most, length_at_most, length_at_least}
use Rattle.cue_policies.specs.Patterns.{Concerns, IsNamedLabel}
use Rattle.cue_policies.specs.Tables.{table_part}
use Rattle.cue_policies.specs.View.{IsAlong, EndsInPattern, IsLevelInView, PartRefuses}
use Rattle.cue_policies.specs.declared.kind.LayerKind.{LayerKind}
use Rattle.cue_policies.specs.declared.kind.LayerKind.TheVariants.{Layer, Policy}
use Rattle.cue_policies.proofs.Branches.{label_listed}
use Rattle.cue_policies.proofs.Gains.{Left, pushed}
use Rattle.cue_policies.proofs.Views.{pick, put}
use Rattle.cue_row.specs.Made.{at_level}
use Rattle.cue_row.specs.Row as rows
use Rattle.cue_row.specs.declared.level.Level.TheVariants.{Optional}
use Rattle.cue_row.specs.declared.parts.RowParts.{RowParts as Row}
use Rattle.cue_row.specs.declared.question.Question as program
use Rattle.cue_table.specs.Refuses.{RowRefuses}
use Rattle.cue_table.specs.Tree.{Tree, branch_at, row_of, step_into, labels_of, below}
use Rattle.cue_why.specs.Inner.Parts.{IsStepAlong, IsIn, AreParts, IsOwnBelow, IsBelow, HoldsPart, IsHeldRow, GainsPart}
use Rattle.cue_why.specs.declared.part.WrittenPart.{WrittenPart}
use Rattle.cue_why.proofs.Along.{along_nil, along_in, along_out}
use Rattle.cue_why.proofs.Mets.{met_asked}

same_part : (written : Path) (branch : Tree Row) (next : WrittenPart) → written ≡ next.written → branch ≡ next.branch → record { written = written; branch = branch } ≡ next
same_part written branch next e f = λ i. record { written = e i; branch = f i }

some_same : {X : Type 0} (x y : X) → Some x ≡ Some y → x ≡ y
some_same x y e = cc

-- ---- the root
pub root_parts : (kind : LayerKind) (root : Tree Row) (one : WrittenPart) (parts : List WrittenPart) → one.written ≡ [] → one.branch ≡ root → parts ≡ one ∷ [] → AreParts kind root [] parts
root_parts kind root one parts w b e next = (
  λ h.
      let in_one : IsIn next (one ∷ []) = subst (IsIn next) e h in
      let same : one ≡ next = ⊎_elim (λ s. s) (λ f. absurd f) in_one in
      let path : next.written ≡ [] = ap (λ (p : WrittenPart). p.written) (sym same) ∙ w in
      (subst (λ p. IsAlong kind p []) (sym path) tt, ap (branch_at root) path ∙ ap Some (sym b ∙ ap (λ (p : WrittenPart). p.branch) same)),
  λ h.
      let path : next.written ≡ [] = along_nil kind next.written h.0 in
      let branch : root ≡ next.branch = some_same root next.branch (sym (ap (branch_at root) path) ∙ h.1) in
      let same : one ≡ next = same_part one.written one.branch next (w ∙ sym path) (b ∙ branch) in
      subst (IsIn next) (sym e) (inl same),
)

-- ---- one step further
branch_snoc : (tree : Tree Row) (path : Path) (step : Step) → branch_at tree (path ++ step ∷ []) ≡ option_and_then (λ b. step_into b step) (branch_at tree path)
branch_snoc tree [] step = last (step_into tree step)
  where
    last : (found : Option (Tree Row)) → option_and_then (λ branch. branch_at branch []) found ≡ found
    last None = refl
    last (Some b) = refl
branch_snoc tree (first ∷ path) step = more (step_into tree first) (λ b. branch_snoc b path step)
  where
    more : (found : Option (Tree Row)) → ((b : Tree Row) → branch_at b (path ++ step ∷ []) ≡ option_and_then (λ b. step_into b step) (branch_at b path))
        → option_and_then (λ branch. branch_at branch (path ++ step ∷ [])) found ≡ option_and_then (λ b. step_into b step) (option_and_then (λ branch. branch_at branch path) found)
    more None rec = refl
    more (Some b) rec = rec b

found_first : (found : Option (Tree Row)) (step : Step) (branch : Tree Row) → option_and_then (λ b. step_into b step) found ≡ Some branch → (b : Tree Row) × (found ≡ Some b) × (step_into b step ≡ Some branch)
found_first None step branch e = cc
found_first (Some b) step branch e = (b, refl, e)

pub parts_step :
    (kind : LayerKind) (root : Tree Row) (place : Path) (step : Step) (parts found : List WrittenPart) → AreParts kind root place parts
    → ((next : WrittenPart) → IsIn next found ↔ OneOf (λ part. IsBelow kind step part next) parts) → AreParts kind root (place ++ step ∷ []) found
parts_step kind root place step parts found are is next = (into, out)
  where
    into : IsIn next found → IsAlong kind next.written (place ++ step ∷ []) × (branch_at root next.written ≡ Some next.branch)
    into h =
        let one = pick (λ part. IsBelow kind step part next) parts ((is next).0 h) in
        let at = (are one.0).0 one.1 in
        let own = one.2.0 in
        let path : next.written ≡ one.0.written ++ own ∷ [] = one.2.2.0 in (
          subst (λ p. IsAlong kind p (place ++ step ∷ [])) (sym path) (along_in kind one.0.written place own step at.0 one.2.1),
          ap (branch_at root) path ∙ branch_snoc root one.0.written own ∙ ap (option_and_then (λ b. step_into b own)) at.1 ∙ one.2.2.1,
        )

    out : IsAlong kind next.written (place ++ step ∷ []) × (branch_at root next.written ≡ Some next.branch) → IsIn next found
    out h =
        let split = along_out kind next.written place step h.0 in
        let there = found_first (branch_at root split.0) split.1 next.branch (sym (branch_snoc root split.0 split.1) ∙ sym (ap (branch_at root) split.2) ∙ h.1) in
        let part : WrittenPart = record { written = split.0; branch = there.0 } in
        let in_parts = (are part).1 (split.3, there.1) in
        (is next).1 (put (λ part. IsBelow kind step part next) parts part in_parts (split.1, split.4, (split.2, there.2)))

-- ---- one part, at one step
pub below_index : (kind : LayerKind) (n : ℕ) (part next : WrittenPart) → IsBelow kind (index n) part next ↔ IsOwnBelow (index n) part next
below_index kind n part next = (λ h. into h.0 h.1 h.2, λ h. (index n, refl, h))
  where
    into : (own : Step) → IsStepAlong kind own (index n) → IsOwnBelow own part next → IsOwnBelow (index n) part next
    into (label l) along at = absurd along
    into (index m) along at = subst (λ i. IsOwnBelow (index i) part next) along at

pub below_layer : (step : Step) (part next : WrittenPart) → IsBelow Layer step part next ↔ IsOwnBelow step part next
below_layer (index n) part next = below_index Layer n part next
below_layer (label l) part next = (λ h. into h.0 h.1 h.2, λ h. (label l, inl (refl, λ f. f), h))
  where
    into : (own : Step) → IsStepAlong Layer own (label l) → IsOwnBelow own part next → IsOwnBelow (label l) part next
    into (label own) along at = ⊎_elim (λ (named : IsNamedLabel Layer own l). subst (λ m. IsOwnBelow (label m) part next) named.0 at) (λ bound. absurd bound.0) along
    into (index m) along at = absurd along

-- what a part has at one of its labels, where that concerns another
abbrev pub IsLabelBelow : List ℕ → WrittenPart → WrittenPart → List ℕ × Tree Row → Type 0
IsLabelBelow l part next one = Concerns Policy one.0 l × IsOwnBelow (label one.0) part next

pub labels_below : (l : List ℕ) (part next : WrittenPart) → OneOf (IsLabelBelow l part next) (labels_of (below part.branch)) ↔ IsBelow Policy (label l) part next
labels_below l part next = (
  λ h. let one = pick (IsLabelBelow l part next) (labels_of (below part.branch)) h in (label one.0.0, one.2.0, one.2.1),
  λ h. out h.0 h.1 h.2,
)
  where
    out : (own : Step) → IsStepAlong Policy own (label l) → IsOwnBelow own part next → OneOf (IsLabelBelow l part next) (labels_of (below part.branch))
    out (index m) along at = absurd along
    out (label own) along at =
        let listed = (label_listed own part.branch).1 (next.branch, at.1) in
        let one = pick (λ (x : List ℕ × Tree Row). x.0 ≡ own) (labels_of (below part.branch)) listed in
        let Q : List ℕ → Type 0 = λ m. Concerns Policy m l × IsOwnBelow (label m) part next in
        put (IsLabelBelow l part next) (labels_of (below part.branch)) one.0 one.1 (subst Q (sym one.2) (along, at))

-- ---- what parts refuse
row_there : (found : Option (Tree Row)) (question : Question) → RowRefuses rows.RowRefusesQuestion (option_and_then row_of found) question
    → (b : Tree Row) × (found ≡ Some b) × RowRefuses rows.RowRefusesQuestion (row_of b) question
row_there None question h = absurd h
row_there (Some b) question h = (b, refl, h)

pub parts_refuse : (kind : LayerKind) (root : Tree Row) (place : Path) (parts : List WrittenPart) → AreParts kind root place parts
    → (question : Question) → OneOf (λ part. HoldsPart kind part question) parts ↔ PartRefuses (table_part (kind, root)) place question
parts_refuse kind root place parts are question = (
  λ h.
      let one = pick (λ part. HoldsPart kind part question) parts h in
      let at = (are one.0).0 one.1 in
      (one.0.written, at.0, subst (λ found. RowRefuses rows.RowRefusesQuestion (option_and_then row_of found) question) (sym at.1) one.2.0, one.2.1),
  λ h.
      let there = row_there (branch_at root h.0) question h.2 in
      let part : WrittenPart = record { written = h.0; branch = there.0 } in
      put (λ part. HoldsPart kind part question) parts part ((are part).1 (h.1, there.1)) (there.2, h.3),
)

-- ---- rows as they count in the view
loose : (row : Row) (question : Question) → rows.RowRefusesQuestion (at_level Optional row) question ↔ (rows.RowRefusesQuestion row question × ¬ IsLevelInView question)
loose row (may_be scalar) = (λ h. (h, λ f. f), λ h. h.0)
loose row (usual scalar) = (λ h. (h, λ f. f), λ h. h.0)
loose row struct = (λ h. (h, λ f. f), λ h. h.0)
loose row list = (λ h. (h, λ f. f), λ h. h.0)
loose row (allows l) = (λ h. (h, λ f. f), λ h. h.0)
loose row (level_at_most k) = (λ h. let low : k < 0 = h in absurd (omega arith), λ h. absurd (h.1 tt))
loose row (length_at_most n) = (λ h. (h, λ f. f), λ h. h.0)
loose row (length_at_least n) = (λ h. (h, λ f. f), λ h. h.0)

pub held_refuses : (kind : LayerKind) (written : Path) (row held : Row) (question : Question) → IsHeldRow kind written row held
    → rows.RowRefusesQuestion held question ↔ (rows.RowRefusesQuestion row question × ¬ (EndsInPattern kind written × IsLevelInView question))
held_refuses kind written row held question is = ⊎_elim
    (λ ends.
    let at = loose row question in
    let P : Row → Type 0 = λ r. rows.RowRefusesQuestion r question ↔ (rows.RowRefusesQuestion row question × ¬ (EndsInPattern kind written × IsLevelInView question)) in
    subst P (sym ends.1) (λ h. let both = at.0 h in (both.0, λ e. both.1 e.1), λ h. at.1 (h.0, λ level. h.1 (ends.0, level))))
    (λ not.
    let P : Row → Type 0 = λ r. rows.RowRefusesQuestion r question ↔ (rows.RowRefusesQuestion row question × ¬ (EndsInPattern kind written × IsLevelInView question)) in
    subst P (sym not.1) (λ h. (h, λ e. not.0 e.0), λ h. h.0))
    is

-- ---- lists of parts that get longer
pub own_some :
    (old new : List WrittenPart) (part : WrittenPart) (own : Step) (written : Path) (branch : Tree Row) → written ≡ part.written ++ own ∷ [] → step_into part.branch own ≡ Some branch
    → new ≡ old ++ (record { written = written; branch = branch }) ∷ [] → (next : WrittenPart) → IsIn next new ↔ (IsIn next old ⊎ IsOwnBelow own part next)
own_some old new part own written branch w into items next =
    let one : WrittenPart = record { written = written; branch = branch } in
    let both = pushed (λ y. y ≡ next) old new one items in (
      λ h. ⊎_elim (λ o. inl o)
          (λ same. inr (ap (λ (p : WrittenPart). p.written) (sym same) ∙ w, into ∙ ap (λ (p : WrittenPart). Some p.branch) same)) (both.0 h),
      λ h. both.1 (⊎_elim (λ o. inl o) (λ at. inr (same_part written branch next (w ∙ sym at.0) (some_same branch next.branch (sym into ∙ at.1)))) h),
    )

pub own_none : (old new : List WrittenPart) (part : WrittenPart) (own : Step) → step_into part.branch own ≡ None → new ≡ old
    → (next : WrittenPart) → IsIn next new ↔ (IsIn next old ⊎ IsOwnBelow own part next)
own_none old new part own e same next = (
  λ h. inl (subst (IsIn next) same h),
  λ h. ⊎_elim (λ o. subst (IsIn next) (sym same) o) (λ at. let both : None ≡ Some next.branch = sym e ∙ at.1 in absurd (cc)) h,
)

pub labels_start : (l : List ℕ) (part next : WrittenPart) (rest : List (List ℕ × Tree Row)) (old : Type 0) → rest ≡ labels_of (below part.branch)
    → Left old (IsLabelBelow l part next) rest (old ⊎ IsBelow Policy (label l) part next)
labels_start l part next rest old e =
    let all = labels_below l part next in (
      λ h. ⊎_elim (λ o. inl o) (λ r. inr (all.0 (subst (OneOf (IsLabelBelow l part next)) e r))) h,
      λ h. ⊎_elim (λ o. inl o) (λ b. inr (subst (OneOf (IsLabelBelow l part next)) (sym e) (all.1 b))) h,
    )

-- ---- rows of parts
pub gains_row : (kind : LayerKind) (old : Row) (part : WrittenPart) (new own held : Row) → row_of part.branch ≡ Some own → IsHeldRow kind part.written own held
    → ((question : program.Question) → rows.RefusesAsked new question ↔ (rows.RefusesAsked old question ⊎ rows.RefusesAsked held question)) → GainsPart kind old part new
gains_row kind old part new own held e is met question =
    let both = met_asked old held new met question in
    let counts = held_refuses kind part.written own held question is in
    let P : Option Row → Type 0 = λ r. RowRefuses rows.RowRefusesQuestion r question × ¬ (EndsInPattern kind part.written × IsLevelInView question) in (
      λ h. ⊎_elim (λ o. inl o) (λ g. inr (subst P (sym e) (counts.0 g))) (both.0 h),
      λ h. both.1 (⊎_elim (λ o. inl o) (λ g. inr (counts.1 (subst P e g))) h),
    )

pub gains_none : (kind : LayerKind) (old : Row) (part : WrittenPart) → row_of part.branch ≡ None → GainsPart kind old part old
gains_none kind old part e question = (
  λ h. inl h,
  λ h. ⊎_elim (λ o. o) (λ g. absurd (subst (λ r. RowRefuses rows.RowRefusesQuestion r question) e g.0)) h,
)

-- ---- what was put behind others, in other terms
pub put_as : (now old P Q : Type 0) → P ↔ Q → (now ↔ (old ⊎ P)) → now ↔ (old ⊎ Q)
put_as now old P Q same is = (
  λ h. ⊎_elim (λ o. inl o) (λ p. inr (same.0 p)) (is.0 h),
  λ h. is.1 (⊎_elim (λ o. inl o) (λ q. inr (same.1 q)) h),
)

pub at_layer : (kind : LayerKind) (step : Step) (part next : WrittenPart) → kind ≡ Layer → IsOwnBelow step part next ↔ IsBelow kind step part next
at_layer kind step part next e =
    let is = below_layer step part next in
    subst (λ k. IsOwnBelow step part next ↔ IsBelow k step part next) (sym e) (is.1, is.0)

pub at_index : (kind : LayerKind) (step : Step) (n : ℕ) (part next : WrittenPart) → step ≡ index n → IsOwnBelow step part next ↔ IsBelow kind step part next
at_index kind step n part next e =
    let is = below_index kind n part next in
    subst (λ s. IsOwnBelow s part next ↔ IsBelow kind s part next) (sym e) (is.1, is.0)

pub at_label : (kind : LayerKind) (step : Step) (l : List ℕ) (part next : WrittenPart) → kind ≡ Policy → step ≡ label l → IsBelow Policy (label l) part next ↔ IsBelow kind step part next
at_label kind step l part next e f =
    let P : LayerKind → Step → Type 0 = λ k s. IsBelow Policy (label l) part next ↔ IsBelow k s part next in
    subst (λ k. P k step) (sym e) (subst (λ s. P Policy s) (sym f) ((λ h. h), λ h. h))

pub at_own : (own l text : List ℕ) (part next : WrittenPart) → Concerns Policy own l → text ≡ own → IsOwnBelow (label text) part next ↔ (Concerns Policy own l × IsOwnBelow (label own) part next)
at_own own l text part next concerns e =
    subst (λ t. IsOwnBelow (label t) part next ↔ (Concerns Policy own l × IsOwnBelow (label own) part next)) (sym e) ((λ h. (concerns, h)), λ h. h.1)
