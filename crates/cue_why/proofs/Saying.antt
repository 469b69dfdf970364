-- Which parts refuse something.
use Rattle.std.proofs.Common.{◌≡◌, ◌↔◌, ◌⊎◌, inl, inr, ⊎_elim, Bool, true, false, not, List, [], ◌∷◌, ◌++◌, length, arith, Option, Some, None, refl, sym, ap, subst, ◌∙◌}
use Rattle.std.specs.Prelude.{IsTrue}
use Rattle.std.specs.Option.{is_some}
use Rattle.std.proofs.lemmas.Bool.{false≢true}
use Rattle.cue_lattice.specs.OneOf.{OneOf}
use Rattle.cue_lattice.specs.Path.{Step, Path}
use Rattle.cue_lattice.specs.Question.{Question}
use Rattle.cue_policies.specs.View.{EndsInPattern, IsLevelInView}
use Rattle.cue_policies.specs.declared.kind.LayerKind.{LayerKind}
use Rattle.cue_policies.proofs.Asking.{asks}
use Rattle.cue_policies.proofs.Gains.{Left, pushed}
use Rattle.cue_row.specs.Questions.{question_of, asked_by_question}
use Rattle.cue_row.specs.Row as rows
use Rattle.cue_row.specs.Row.{RefusesAsked, IsRow}
use Rattle.cue_row.specs.declared.parts.RowParts.{RowParts as Row}
use Rattle.cue_row.specs.declared.question.Question as program
use Rattle.cue_table.specs.Form.{IsRowKept, IsTable, IsTreeTaken}
use Rattle.cue_table.specs.Refuses.{RowRefuses, TableRefuses}
use Rattle.cue_table.specs.Tree.{Tree, node, Children, none, child, Rest, no_rest, onward, row_of, row_at, below, rest_below, rest_at, children_of}
use Rattle.cue_table.proofs.Depth.{taken_row, kept_at}
use Rattle.cue_why.specs.Inner.Parts.{IsIn, IsHeldRow}
use Rattle.cue_why.specs.Inner.Saying.{RefusesAny}
use Rattle.cue_why.specs.declared.part.WrittenPart.{WrittenPart}
use Rattle.cue_why.proofs.Parts.{held_refuses}

abbrev Told : Tree Row → Path → Question → Type 0
Told = TableRefuses rows.RowRefusesQuestion

abbrev Kept : Row → Type 0
Kept = IsRowKept RefusesAsked IsRow

-- nothing is below a place
abbrev pub IsBare : Tree Row → Type 0
IsBare tree = (below tree ≡ none) × (rest_below tree ≡ no_rest)

taken_below : (children : Children Row) (rest : Rest Row) → ¬ ((children ≡ none) × (rest ≡ no_rest)) → IsTreeTaken (node None children rest)
taken_below none no_rest some = absurd (some (refl, refl))
taken_below none (onward n tree) some = tt
taken_below (child step tree children) rest some = tt

no_cons : (s : Step) (p : Path) → s ∷ p ≡ [] → ⊥
no_cons s p e = cc

-- where something is below a place, something is refused there
pub below_any : (kind : LayerKind) (part : WrittenPart) → IsTable RefusesAsked IsRow part.branch → ¬ IsBare part.branch → RefusesAny kind part
below_any kind part form some non = by part.branch form some (λ path question r. non path question r)
  where
    by : (tree : Tree Row) → IsTable RefusesAsked IsRow tree → ¬ IsBare tree
        → ((path : Path) (question : Question) → ¬ (Told tree path question × ¬ ((path ≡ []) × EndsInPattern kind part.written × IsLevelInView question))) → ⊥
    by (node row children rest) form some non =
        let bare : Tree Row = node None children rest in
        let bare_form : IsTable RefusesAsked IsRow bare = (tt, form.1, form.2) in
        let there = taken_row Kept bare (taken_below children rest some) bare_form in
        at there.0 there.1 there.2 (kept_at Kept bare there.0 there.1 bare_form there.2).1
      where
        at : (path : Path) (found : Row) → row_at (node None children rest) path ≡ Some found → ¬ ((question : program.Question) → ¬ RefusesAsked found question) → ⊥
        at [] found e kept = cc
        at (step ∷ path) found e kept = kept (λ question r.
            let here : Told (node row children rest) (step ∷ path) (question_of question) = subst (λ o. RowRefuses rows.RowRefusesQuestion o (question_of question)) (sym e) r in
            non (step ∷ path) (question_of question) (here, λ l. no_cons step path l.0))

bare_below : (tree : Tree Row) (step : Step) (path : Path) (question : Question) → IsBare tree → ¬ Told tree (step ∷ path) question
bare_below (node row children rest) step path question bare h =
    let P : Children Row → Rest Row → Type 0 = λ c r. Told (node row c r) (step ∷ path) question in
    subst (λ r. P none r) bare.1 (subst (λ c. P c rest) bare.0 h)

-- and otherwise only at its own path
bare_at : (tree : Tree Row) (path : Path) (question : Question) → IsBare tree → Told tree path question → (path ≡ []) × RowRefuses rows.RowRefusesQuestion (row_of tree) question
bare_at tree [] question bare h = (refl, h)
bare_at tree (step ∷ path) question bare h = absurd (bare_below tree step path question bare h)

pub none_any : (kind : LayerKind) (part : WrittenPart) → IsBare part.branch → row_of part.branch ≡ None → ¬ RefusesAny kind part
none_any kind part bare e any = any (λ path question h.
    let at = bare_at part.branch path question bare h.0 in
    subst (λ o. RowRefuses rows.RowRefusesQuestion o question) e at.1)

pub held_any : (kind : LayerKind) (part : WrittenPart) (row held : Row) → IsBare part.branch → row_of part.branch ≡ Some row → IsHeldRow kind part.written row held
    → ¬ ((question : program.Question) → ¬ RefusesAsked held question) → RefusesAny kind part
held_any kind part row held bare e is some non = some (λ question r.
    let both = (held_refuses kind part.written row held (question_of question) is).0 r in
    non [] (question_of question) (subst (λ o. RowRefuses rows.RowRefusesQuestion o (question_of question)) (sym e) both.0, λ l. both.1 (l.1, l.2)))

pub any_held : (kind : LayerKind) (part : WrittenPart) (row held : Row) → IsBare part.branch → row_of part.branch ≡ Some row → IsHeldRow kind part.written row held
    → RefusesAny kind part → ¬ ((question : program.Question) → ¬ RefusesAsked held question)
any_held kind part row held bare e is any free = any (λ path question h.
    let at = bare_at part.branch path question bare h.0 in
    let own : rows.RowRefusesQuestion row question = subst (λ o. RowRefuses rows.RowRefusesQuestion o question) e at.1 in
    let r = (held_refuses kind part.written row held question is).1 (own, λ l. h.1 (at.0, l.0, l.1)) in
    free (asked_by_question question) (subst (rows.RowRefusesQuestion held) (sym (asks question)) r))

-- ---- whether something is below a place
pub child_some : (tree : Tree Row) (children : List (Step × Tree Row)) (one : Step × Tree Row) → children_of (below tree) ≡ one ∷ children → ¬ IsBare tree
child_some tree children one e bare = let none_left : one ∷ children ≡ [] = sym e ∙ ap children_of bare.0 in cc

childless : (children : Children Row) → children_of children ≡ [] → children ≡ none
childless none e = refl
childless (child step tree children) e = cc

pub rest_is : (tree : Tree Row) (found : Option (Tree Row)) → children_of (below tree) ≡ [] → found ≡ rest_at (rest_below tree) → IsTrue (is_some found) ↔ ¬ IsBare tree
rest_is tree found e f = by (rest_below tree) refl found f
  where
    by : (rest : Rest Row) → rest_below tree ≡ rest → (found : Option (Tree Row)) → found ≡ rest_at (rest_below tree) → IsTrue (is_some found) ↔ ¬ IsBare tree
    by no_rest r None f = (λ t. absurd (false≢true t), λ some. absurd (some (childless (below tree) e, r)))
    by no_rest r (Some next) f = let both : Some next ≡ None = f ∙ ap rest_at r in absurd (cc)
    by (onward n next) r None f = let both : None ≡ Some next = f ∙ ap rest_at r in absurd (cc)
    by (onward n next) r (Some other) f = (λ t bare. let both : onward n next ≡ no_rest = sym r ∙ bare.1 in cc, λ some. refl)

-- ---- lists of parts that get longer
pub kept_some : (kind : LayerKind) (old new : List WrittenPart) (part one : WrittenPart) → RefusesAny kind part → new ≡ old ++ part ∷ []
    → IsIn one new ↔ (IsIn one old ⊎ ((part ≡ one) × RefusesAny kind part))
kept_some kind old new part one any items =
    let both = pushed (λ y. y ≡ one) old new part items in (
      λ h. ⊎_elim (λ o. inl o) (λ same. inr (same, any)) (both.0 h),
      λ h. both.1 (⊎_elim (λ o. inl o) (λ g. inr g.0) h),
    )

pub kept_none : (kind : LayerKind) (old new : List WrittenPart) (part one : WrittenPart) → ¬ RefusesAny kind part → new ≡ old
    → IsIn one new ↔ (IsIn one old ⊎ ((part ≡ one) × RefusesAny kind part))
kept_none kind old new part one non same = (
  λ h. inl (subst (IsIn one) same h),
  λ h. ⊎_elim (λ o. subst (IsIn one) (sym same) o) (λ g. absurd (non g.1)) h,
)

-- ---- as the code has it
decided : (tree : Tree Row) → IsBare tree ⊎ (¬ IsBare tree)
decided (node row none no_rest) = inl (refl, refl)
decided (node row none (onward n tree)) = inr (λ h. let both : onward n tree ≡ no_rest = h.1 in cc)
decided (node row (child step tree children) rest) = inr (λ h. let both : child step tree children ≡ none = h.0 in cc)

pub bare_of : (tree : Tree Row) (found : Bool) → IsTrue found ↔ ¬ IsBare tree → found ≡ false → IsBare tree
bare_of tree found is e = ⊎_elim (λ h. h) (λ non. absurd (false≢true (sym e ∙ is.1 non))) (decided tree)

pub not_free : (free : Bool) (P : Type 0) → IsTrue free ↔ P → IsTrue (not free) ↔ ¬ P
not_free true P e = (λ t. absurd (false≢true t), λ n. absurd (n (e.0 refl)))
not_free false P e = (λ t p. false≢true (e.1 p), λ n. refl)

pub kept_start : {X : Type 0} (now : Type 0) (F : X → Type 0) (rest all : List X) → ¬ now → rest ≡ all → Left now F rest (OneOf F all)
kept_start now F rest all non e = (λ h. ⊎_elim (λ n. absurd (non n)) (λ o. subst (OneOf F) e o) h, λ a. inr (subst (OneOf F) (sym e) a))

pub no_items : {X : Type 0} (xs : List X) → length xs ≡ 0 → xs ≡ []
no_items [] e = refl
no_items (x ∷ xs) e = absurd (omega (arith, e))
