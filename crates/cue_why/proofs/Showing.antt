-- The parts that are shown, step by step.
use Rattle.std.proofs.Common.{◌≡◌, ◌≢◌, ◌↔◌, ◌⊎◌, inl, inr, ⊎_elim, ◌<◌, ◌≤◌, ◌+◌, ℕ, List, [], ◌∷◌, ◌++◌, length, map, take, get_or, Option, Some, None, refl, sym, ap, subst, ◌∙◌, append-nil, append_assoc, arith}
use Rattle.std.specs.Option.{option_and_then}
use Rattle.std.proofs.lemmas.List.{take_all}
use Rattle.cue_lattice.specs.OneOf.{OneOf}
use Rattle.cue_lattice.specs.Path.{Step, Path}
use Rattle.cue_lattice.specs.Question.{Question}
use Rattle.cue_policies.proofs.Views.{pick, put}
use Rattle.cue_row.specs.Row as rows
use Rattle.cue_row.specs.Steps.{step_of}
use Rattle.cue_row.specs.declared.parts.RowParts.{RowParts as Row}
use Rattle.cue_row.specs.declared.step.Step.{Step as Code}
use Rattle.cue_table.specs.Refuses.{RowRefuses, TableRefuses}
use Rattle.cue_table.specs.Tree.{Tree, branch_at, row_of, row_at, step_into}
use Rattle.cue_why.specs.Inner.Parts.{AreParts, IsBelow, IsIn}
use Rattle.cue_why.specs.Inner.Saying.{RefusesAny, pair_of}
use Rattle.cue_why.specs.Shown.{ShownPartRefuses, PathHasPart, AreShown}
use Rattle.cue_why.specs.declared.part.WrittenPart.{WrittenPart}
use Rattle.cue_why.specs.declared.source.LayerSource.{LayerSource}
use Rattle.cue_why.proofs.Demands.{map_length}
use Rattle.cue_why.proofs.Parts.{parts_step}
use Rattle.cue_why.proofs.Tracing.{cut_at}

-- ---- what a table refuses below a branch
abbrev FoundRow : Option (Tree Row) → Path → Option Row
FoundRow found below = option_and_then row_of (option_and_then (λ branch. branch_at branch below) found)

row_further : (tree : Tree Row) (path below : Path) → row_at tree (path ++ below) ≡ FoundRow (branch_at tree path) below
row_further tree [] below = refl
row_further tree (step ∷ path) below = by (step_into tree step) (λ next. row_further next path below)
  where
    by : (found : Option (Tree Row)) → ((next : Tree Row) → row_at next (path ++ below) ≡ FoundRow (branch_at next path) below)
        → option_and_then row_of (option_and_then (λ branch. branch_at branch (path ++ below)) found) ≡ FoundRow (option_and_then (λ branch. branch_at branch path) found) below
    by None rec = refl
    by (Some next) rec = rec next

refuses_further : (tree branch : Tree Row) (path below : Path) (question : Question) → branch_at tree path ≡ Some branch
    → TableRefuses rows.RowRefusesQuestion tree (path ++ below) question ↔ TableRefuses rows.RowRefusesQuestion branch below question
refuses_further tree branch path below question e =
    let same : row_at tree (path ++ below) ≡ row_at branch below = row_further tree path below ∙ ap (λ found. FoundRow found below) e in
    let P : Option Row → Type 0 = λ o. RowRefuses rows.RowRefusesQuestion o question in
    (subst P same, subst P (sym same))

nothing_further : (tree : Tree Row) (path below : Path) (question : Question) → branch_at tree path ≡ None → ¬ TableRefuses rows.RowRefusesQuestion tree (path ++ below) question
nothing_further tree path below question e h =
    let none : row_at tree (path ++ below) ≡ None = row_further tree path below ∙ ap (λ found. FoundRow found below) e in
    let P : Option Row → Type 0 = λ o. RowRefuses rows.RowRefusesQuestion o question in
    subst P none h

-- a source has a part just where it has a branch that refuses something
part_of_branch : (source : LayerSource) (part : WrittenPart) → branch_at source.table.now part.written ≡ Some part.branch → RefusesAny source.kind part
    → ¬ ((below : Path) (question : Question) → ¬ ShownPartRefuses source.kind source.table.now part.written below question)
part_of_branch source part e any non = any (λ below question h. non below question ((refuses_further source.table.now part.branch part.written below question e).1 h.0, h.1))

branch_of_part : (source : LayerSource) (written : Path) → ¬ ((below : Path) (question : Question) → ¬ ShownPartRefuses source.kind source.table.now written below question)
    → (branch : Tree Row) × (branch_at source.table.now written ≡ Some branch) × RefusesAny source.kind (record { written = written; branch = branch })
branch_of_part source written some = by (branch_at source.table.now written) refl
  where
    by : (found : Option (Tree Row)) → branch_at source.table.now written ≡ found
        → (branch : Tree Row) × (branch_at source.table.now written ≡ Some branch) × RefusesAny source.kind (record { written = written; branch = branch })
    by None e = absurd (some (λ below question h. nothing_further source.table.now written below question e h.0))
    by (Some branch) e = (branch, e, λ non. some (λ below question h. non below question ((refuses_further source.table.now branch written below question e).0 h.0, h.1)))

-- ---- the parts of one place
-- the list has the parts of a place that refuse something
pub record AreSaying (source : LayerSource) (place : Path) (parts : List WrittenPart) : Type 0 where
  pub paths : (written : Path) → PathHasPart source.kind source.table.now place written ↔ OneOf (λ part. part.written ≡ written) parts
  pub branches : (part : WrittenPart) → IsIn part parts → branch_at source.table.now part.written ≡ Some part.branch

pub saying : (source : LayerSource) (place : Path) (parts kept : List WrittenPart) → AreParts source.kind source.table.now place parts
    → ((one : WrittenPart) → IsIn one kept ↔ OneOf (λ part. (part ≡ one) × RefusesAny source.kind part) parts) → AreSaying source place kept
saying source place parts kept are is = record {
  paths = λ written. (into written, out written);
  branches = λ part h. let one = pick (λ other. (other ≡ part) × RefusesAny source.kind other) parts ((is part).0 h) in subst (λ p. branch_at source.table.now p.written ≡ Some p.branch) one.2.0 ((are one.0).0 one.1).1;
}
  where
    into : (written : Path) → PathHasPart source.kind source.table.now place written → OneOf (λ part. part.written ≡ written) kept
    into written h =
        let there = branch_of_part source written h.1 in
        let part : WrittenPart = record { written = written; branch = there.0 } in
        let in_parts = (are part).1 (h.0, there.1) in
        let in_kept = (is part).1 (put (λ other. (other ≡ part) × RefusesAny source.kind other) parts part in_parts (refl, there.2)) in
        put (λ other. other.written ≡ written) kept part in_kept refl

    out : (written : Path) → OneOf (λ part. part.written ≡ written) kept → PathHasPart source.kind source.table.now place written
    out written h =
        let one = pick (λ other. other.written ≡ written) kept h in
        let kept_one = pick (λ other. (other ≡ one.0) × RefusesAny source.kind other) parts ((is one.0).0 one.1) in
        let at = (are kept_one.0).0 kept_one.1 in
        let same : kept_one.0.written ≡ written = ap (λ (p : WrittenPart). p.written) kept_one.2.0 ∙ one.2 in
        let some = part_of_branch source kept_one.0 at.1 kept_one.2.1 in
        subst (PathHasPart source.kind source.table.now place) same (at.0, some)

none_saying : (source : LayerSource) (place : Path) → AreSaying source place [] → (written : Path) → ¬ PathHasPart source.kind source.table.now place written
none_saying source place are written h = (are.paths written).0 h

-- ---- the longest beginning
pub record AreShownParts (source : LayerSource) (path : Path) (parts : List WrittenPart) : Type 0 where
  pub place : Path
  pub after : Path
  pub whole : path ≡ place ++ after
  pub saying_is : AreSaying source place parts
  pub longest : (more rest : Path) → after ≡ more ++ rest → more ≢ [] → (written : Path) → ¬ PathHasPart source.kind source.table.now (place ++ more) written

one_map : {X Y : Type 0} (f : X → Y) (P : Y → Type 0) (xs : List X) → OneOf P (map f xs) ↔ OneOf (λ x. P (f x)) xs
one_map f P [] = (λ h. h, λ h. h)
one_map f P (x ∷ xs) =
    let more = one_map f P xs in
    (λ h. ⊎_elim (λ p. inl p) (λ r. inr (more.0 r)) h, λ h. ⊎_elim (λ p. inl p) (λ r. inr (more.1 r)) h)

pub shown_pairs : (source : LayerSource) (path : Path) (parts : List WrittenPart) → AreShownParts source path parts → AreShown source.kind source.table.now path (map pair_of parts)
shown_pairs source path parts are = record {
  place = are.place;
  after = are.after;
  whole = are.whole;
  paths = λ written.
      let here = are.saying_is.paths written in
      let all = one_map pair_of (λ part. part.0 ≡ written) parts in
      (λ h. all.1 (here.0 h), λ h. here.1 (all.0 h));
  branches = λ part h.
      let one = pick (λ other. pair_of other ≡ part) parts ((one_map pair_of (λ other. other ≡ part) parts).0 h) in
      subst (λ (p : Path × Tree Row). branch_at source.table.now p.0 ≡ Some p.1) one.2 (are.saying_is.branches one.0 one.1);
  longest = are.longest;
}

nil_front : (more rest : Path) → [] ≡ more ++ rest → more ≡ []
nil_front [] rest e = refl
nil_front (x ∷ more) rest e = cc

pub shown_here : (source : LayerSource) (place : Path) (parts : List WrittenPart) → AreSaying source place parts → AreShownParts source place parts
shown_here source place parts are = record {
  place = place;
  after = [];
  whole = sym (append-nil place);
  saying_is = are;
  longest = λ more rest e some written h. some (nil_front more rest e);
}

-- the front of a path with one step behind: a front of the path, or all
abbrev FrontOf : Path → Step → Path → Type 0
FrontOf after step more = ((rest : Path) × (after ≡ more ++ rest)) ⊎ (more ≡ after ++ step ∷ [])

front_of : (after : Path) (step : Step) (more rest : Path) → after ++ step ∷ [] ≡ more ++ rest → FrontOf after step more
front_of after step [] rest e = inl (after, refl)
front_of [] step (x ∷ more) rest e =
    let same : step ≡ x = cc in
    let none : [] ≡ more ++ rest = cc in
    inr (ap (λ p. x ∷ p) (nil_front more rest none) ∙ ap (λ s. s ∷ []) (sym same))
front_of (y ∷ after) step (x ∷ more) rest e =
    let same : y ≡ x = cc in
    let tail : after ++ step ∷ [] ≡ more ++ rest = cc in
    ⊎_elim
    (λ f. inl (f.0, ap (λ p. y ∷ p) f.1 ∙ ap (λ z. z ∷ more ++ f.0) same))
    (λ f. inr (ap (λ p. x ∷ p) f ∙ ap (λ z. z ∷ after ++ step ∷ []) (sym same)))
    (front_of after step more rest tail)

pub shown_further : (source : LayerSource) (path : Path) (step : Step) (parts : List WrittenPart) → AreShownParts source path parts → AreSaying source (path ++ step ∷ []) []
    → AreShownParts source (path ++ step ∷ []) parts
shown_further source path step parts are none = record {
  place = are.place;
  after = are.after ++ step ∷ [];
  whole = ap (λ p. p ++ step ∷ []) are.whole ∙ append_assoc are.place are.after (step ∷ []);
  saying_is = are.saying_is;
  longest = longest;
}
  where
    longest : (more rest : Path) → are.after ++ step ∷ [] ≡ more ++ rest → more ≢ [] → (written : Path) → ¬ PathHasPart source.kind source.table.now (are.place ++ more) written
    longest more rest e some written h = ⊎_elim
        (λ f. are.longest more f.0 f.1 some written h)
        (λ f.
        let all : are.place ++ more ≡ path ++ step ∷ [] = ap (λ m. are.place ++ m) f ∙ sym (append_assoc are.place are.after (step ∷ [])) ∙ ap (λ p. p ++ step ∷ []) (sym are.whole) in
        none_saying source (path ++ step ∷ []) none written (subst (λ p. PathHasPart source.kind source.table.now p written) all h))
        (front_of are.after step more rest e)

-- ---- as the code goes along the path
pub record AreAt (source : LayerSource) (p : List Code) (i : ℕ) (parts shown : List WrittenPart) : Type 0 where
  pub here : AreParts source.kind source.table.now (take i (map step_of p)) parts
  pub shown_is : AreShownParts source (take i (map step_of p)) shown

pub at_start : (source : LayerSource) (p : List Code) (parts others shown : List WrittenPart) → AreParts source.kind source.table.now [] parts → AreParts source.kind source.table.now [] others
    → ((one : WrittenPart) → IsIn one shown ↔ OneOf (λ part. (part ≡ one) × RefusesAny source.kind part) others) → AreAt source p 0 parts shown
at_start source p parts others shown are also is = record { here = are; shown_is = shown_here source [] shown (saying source [] others shown also is) }

module _ (source : LayerSource) (p : List Code) (i : ℕ) (s : Code) (parts seen found next shown new seen_again again : List WrittenPart) (less : i < length p) (e : s ≡ get_or p i s) (at : AreAt source p i parts shown)
    (same : seen ≡ parts) (below : (one : WrittenPart) → IsIn one found ↔ OneOf (λ part. IsBelow source.kind (step_of s) part one) seen)
    (is : (one : WrittenPart) → IsIn one next ↔ OneOf (λ part. (part ≡ one) × RefusesAny source.kind part) found)
    (none : next ≡ [] → new ≡ shown) (some : next ≢ [] → new ≡ next)
    (same_again : seen_again ≡ parts) (below_again : (one : WrittenPart) → IsIn one again ↔ OneOf (λ part. IsBelow source.kind (step_of s) part one) seen_again) where
  abbrev Before : Path
  Before = take i (map step_of p)

  abbrev After : Path
  After = Before ++ step_of s ∷ []

  found_are : AreParts source.kind source.table.now After found
  found_are = parts_step source.kind source.table.now Before (step_of s) parts found at.here (λ one. subst (λ xs. IsIn one found ↔ OneOf (λ part. IsBelow source.kind (step_of s) part one) xs) same (below one))

  again_are : AreParts source.kind source.table.now After again
  again_are = parts_step source.kind source.table.now Before (step_of s) parts again at.here (λ one. subst (λ xs. IsIn one again ↔ OneOf (λ part. IsBelow source.kind (step_of s) part one) xs) same_again (below_again one))

  next_say : AreSaying source After next
  next_say = saying source After found next found_are is

  new_shown : AreShownParts source After new
  new_shown = by next refl
    where
      by : (xs : List WrittenPart) → next ≡ xs → AreShownParts source After new
      by [] f = subst (AreShownParts source After) (sym (none f)) (shown_further source Before (step_of s) shown at.shown_is (subst (AreSaying source After) f next_say))
      by (x ∷ xs) f = subst (AreShownParts source After) (sym (some (λ g. let both : x ∷ xs ≡ [] = sym f ∙ g in cc))) (shown_here source After next next_say)

  pub at_more : AreAt source p (i + 1) again new
  at_more =
      let cut = cut_at p i s less e in record {
        here = subst (λ place. AreParts source.kind source.table.now place again) (sym cut.0) again_are;
        shown_is = subst (λ place. AreShownParts source place new) (sym cut.0) new_shown;
      }

pub at_end : (source : LayerSource) (p : List Code) (i : ℕ) (parts shown : List WrittenPart) → length p ≤ i → AreAt source p i parts shown → AreShown source.kind source.table.now (map step_of p) (map pair_of shown)
at_end source p i parts shown done at =
    let path = map step_of p in
    let long : length path ≤ i = let e = map_length step_of p in omega arith in
    shown_pairs source path shown (subst (λ place. AreShownParts source place shown) (take_all i path long) at.shown_is)
