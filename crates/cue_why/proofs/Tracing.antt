-- The trail of one source, step by step.
use Rattle.std.proofs.Common.{◌≡◌, ◌↔◌, inl, ⊎_elim, ◌<◌, ◌≤◌, ◌+◌, ℕ, zero, suc, List, [], ◌∷◌, ◌++◌, length, map, take, drop, get_or, sym, ap, subst, ◌∙◌, add-one, arith}
use Rattle.std.proofs.lemmas.List.{drop_all}
use Rattle.cue_lattice.specs.OneOf.{OneOf}
use Rattle.cue_lattice.specs.Path.{Path}
use Rattle.cue_lattice.specs.Question.{Question}
use Rattle.cue_policies.specs.Tables.{table_part}
use Rattle.cue_policies.specs.View.{PartRefuses}
use Rattle.cue_policies.specs.declared.kind.LayerKind.{LayerKind}
use Rattle.cue_row.specs.Row.{RowRefusesQuestion}
use Rattle.cue_row.specs.Steps.{step_of}
use Rattle.cue_row.specs.declared.parts.RowParts.{RowParts as Row}
use Rattle.cue_row.specs.declared.step.Step.{Step as Code}
use Rattle.cue_table.specs.Tree.{Tree}
use Rattle.cue_why.specs.Inner.Parts.{AreParts, IsBelow, IsIn, HoldsPart}
use Rattle.cue_why.specs.Inner.Stacks.{IsTrailOf, LineRefuses, source_part}
use Rattle.cue_why.specs.Inner.Trails.{IsTrail}
use Rattle.cue_why.specs.declared.part.WrittenPart.{WrittenPart}
use Rattle.cue_why.specs.declared.source.LayerSource.{LayerSource}
use Rattle.cue_why.proofs.Demands.{map_length}
use Rattle.cue_why.proofs.Parts.{parts_step, parts_refuse}
use Rattle.cue_why.proofs.Trails.{IsTrailTo, trail_starts, trail_goes, trail_ends, trail_as}

-- ---- the path so far, and what is left of it
cut_suc : (p : List Code) (i : ℕ) (s : Code) → i < length p → s ≡ get_or p i s
    → (take (suc i) (map step_of p) ≡ take i (map step_of p) ++ step_of s ∷ []) × (drop i (map step_of p) ≡ step_of s ∷ drop (suc i) (map step_of p))
cut_suc [] i s h e = absurd (omega arith)
cut_suc (x ∷ p) zero s h e = (ap (λ y. step_of y ∷ []) (sym e), ap (λ y. step_of y ∷ map step_of p) (sym e))
cut_suc (x ∷ p) (suc i) s h e =
    let more = cut_suc p i s (omega arith) e in
    (ap (λ q. step_of x ∷ q) more.0, more.1)

pub cut_at : (p : List Code) (i : ℕ) (s : Code) → i < length p → s ≡ get_or p i s
    → (take (i + 1) (map step_of p) ≡ take i (map step_of p) ++ step_of s ∷ []) × (drop i (map step_of p) ≡ step_of s ∷ drop (i + 1) (map step_of p))
cut_at p i s h e =
    let P : ℕ → Type 0 = λ n. (take n (map step_of p) ≡ take i (map step_of p) ++ step_of s ∷ []) × (drop i (map step_of p) ≡ step_of s ∷ drop n (map step_of p)) in
    subst P (sym (add-one i)) (cut_suc p i s h e)

-- ---- a row of the parts of a place
row_is : (kind : LayerKind) (root : Tree Row) (place : Path) (parts seen : List WrittenPart) (row : Row) → seen ≡ parts → AreParts kind root place parts
    → ((question : Question) → RowRefusesQuestion row question ↔ OneOf (λ part. HoldsPart kind part question) seen)
    → (question : Question) → RowRefusesQuestion row question ↔ PartRefuses (table_part (kind, root)) place question
row_is kind root place parts seen row e are is question =
    let all = parts_refuse kind root place parts are question in
    let here = subst (λ xs. RowRefusesQuestion row question ↔ OneOf (λ part. HoldsPart kind part question) xs) e (is question) in
    (λ h. all.0 (here.0 h), λ h. here.1 (all.1 h))

-- the parts of the place at hand, and the rows up to it
pub record AreAt (kind : LayerKind) (root : Tree Row) (p : List Code) (i : ℕ) (parts : List WrittenPart) (rows : List Row) : Type 0 where
  pub here : AreParts kind root (take i (map step_of p)) parts
  pub trail : IsTrailTo RowRefusesQuestion (PartRefuses (table_part (kind, root))) (map step_of p) (take i (map step_of p)) (drop i (map step_of p)) rows

pub at_start :
    (kind : LayerKind) (root : Tree Row) (p : List Code) (parts seen : List WrittenPart) (rows new : List Row) (row : Row) → AreParts kind root [] parts → seen ≡ parts
    → ((question : Question) → RowRefusesQuestion row question ↔ OneOf (λ part. HoldsPart kind part question) seen) → rows ≡ [] → new ≡ rows ++ row ∷ [] → AreAt kind root p 0 parts new
at_start kind root p parts seen rows new row are e is none items =
    let one : new ≡ row ∷ [] = items ∙ ap (λ xs. xs ++ row ∷ []) none in
    let refused = PartRefuses (table_part (kind, root)) in
    let first = trail_starts RowRefusesQuestion refused (map step_of p) row (row_is kind root [] parts seen row e are is) in
    record { here = are; trail = subst (IsTrailTo RowRefusesQuestion refused (map step_of p) [] (map step_of p)) (sym one) first }

pub at_more :
    (kind : LayerKind) (root : Tree Row) (p : List Code) (i : ℕ) (s : Code) (parts seen found seen_found : List WrittenPart) (rows new : List Row) (row : Row)
    → i < length p → s ≡ get_or p i s → seen ≡ parts → ((next : WrittenPart) → IsIn next found ↔ OneOf (λ part. IsBelow kind (step_of s) part next) seen) → seen_found ≡ found
    → ((question : Question) → RowRefusesQuestion row question ↔ OneOf (λ part. HoldsPart kind part question) seen_found) → new ≡ rows ++ row ∷ [] → AreAt kind root p i parts rows → AreAt kind root p (i + 1) found new
at_more kind root p i s parts seen found seen_found rows new row less e same below same_found is items at =
    let path = map step_of p in
    let refused = PartRefuses (table_part (kind, root)) in
    let cut = cut_at p i s less e in
    let next : AreParts kind root (take i path ++ step_of s ∷ []) found =
    parts_step kind root (take i path) (step_of s) parts found at.here (λ one. subst (λ xs. IsIn one found ↔ OneOf (λ part. IsBelow kind (step_of s) part one) xs) same (below one)) in
    let so_far : IsTrailTo RowRefusesQuestion refused path (take i path) (step_of s ∷ drop (i + 1) path) rows = subst (λ ahead. IsTrailTo RowRefusesQuestion refused path (take i path) ahead rows) cut.1 at.trail in
    let more = trail_goes RowRefusesQuestion refused path (take i path) (drop (i + 1) path) (step_of s) rows row so_far (row_is kind root (take i path ++ step_of s ∷ []) found seen_found row same_found next is) in
    let all : IsTrailTo RowRefusesQuestion refused path (take i path ++ step_of s ∷ []) (drop (i + 1) path) new = subst (IsTrailTo RowRefusesQuestion refused path (take i path ++ step_of s ∷ []) (drop (i + 1) path)) (sym items) more in
    record {
      here = subst (λ place. AreParts kind root place found) (sym cut.0) next;
      trail = subst (λ done. IsTrailTo RowRefusesQuestion refused path done (drop (i + 1) path) new) (sym cut.0) all;
    }

pub at_end : (source : LayerSource) (p : List Code) (i : ℕ) (parts : List WrittenPart) (rows : List Row) → length p ≤ i → AreAt source.kind source.table.now p i parts rows → IsTrailOf (map step_of p) (source ∷ []) rows
at_end source p i parts rows done at =
    let path = map step_of p in
    let refused = PartRefuses (source_part source) in
    let long : length path ≤ i = let e = map_length step_of p in omega arith in
    let none : drop i path ≡ [] = drop_all i path long in
    let whole : IsTrailTo RowRefusesQuestion refused path (take i path) [] rows = subst (λ ahead. IsTrailTo RowRefusesQuestion refused path (take i path) ahead rows) none at.trail in
    let trail : IsTrail RowRefusesQuestion refused path rows = trail_ends RowRefusesQuestion refused path (take i path) rows whole in
    trail_as RowRefusesQuestion refused (LineRefuses (source ∷ [])) path rows (λ place question. (λ h. inl h, λ h. ⊎_elim (λ x. x) (λ f. absurd f) h)) trail
