-- Tables of literals refuse what the literals do.
use Rattle.std.proofs.Common.{◌≡◌, ◌↔◌, ◌⊎◌, ◌+◌, inl, inr, ⊎_elim, ℕ, Bool, List, [], ◌∷◌, Option, None, Result, Ok, Err, length, sym, subst, ◌∙◌, arith}
use Rattle.std.specs.Prelude.{IfOk}
use Rattle.cue_lattice.specs.Path.{label, index}
use Rattle.cue_lattice.specs.Question.{Question, allows, SameAnswers}
use Rattle.cue_row.specs.LabelSets.{RefusesLabel}
use Rattle.cue_row.specs.declared.parts.RowParts.{RowParts as Row}
use Rattle.cue_row.specs.declared.step.Step.{Step}
use Rattle.cue_table.specs.Tree.{Tree}
use Rattle.cue_scope.specs.Core.{struct, close, list, Cores, Elements, followed_by, Members}
use Rattle.cue_eval.specs.Evaluated.{HasAnswersOf}
use Rattle.cue_eval.specs.Inner.Gathered.{TreeRefusals, LabelsRefuse, LiteralAnswers, FurtherRefuse}
use Rattle.cue_eval.specs.Literals.{LeaveOut}
use Rattle.cue_eval.specs.Places.{StructRefuses, ListRefuses, ClosingRefuses}
use Rattle.cue_eval.specs.Inner.Ready.{AreGiven, AtLabels, AtIndexes}
use Rattle.cue_eval.specs.Refuses.{ElementsRefuse, ElementRefuses, count_of_elements, is_open_list}
use Rattle.cue_eval.proofs.Rests.{alone, open_followed, count_followed, refuses_followed}

all_allowed : (question : Question) → LabelsRefuse None question → ⊥
all_allowed (allows l) h = absurd (cc)
all_allowed _ h = h

pub struct_table : (ms : Members) (given : List (Step × Tree Row)) (labels : Option (List (List ℕ))) (table : Tree Row) → labels ≡ None
    → SameAnswers (TreeRefusals table) (LiteralAnswers (λ question. StructRefuses question ⊎ LabelsRefuse labels question) given)
    → AreGiven (AtLabels ms) given → HasAnswersOf (struct ms) table
struct_table ms given labels table is same g [] question =
    let e = same [] question in (
      λ h. ⊎_elim (λ k. k) (λ k. absurd (all_allowed question (subst (λ (ls : Option (List (List ℕ))). LabelsRefuse ls question) is k))) (e.0 h),
      λ h. e.1 (inl h),
    )
struct_table ms given labels table is same g (label l ∷ path) question =
    let e = same (label l ∷ path) question in
    let r = g.refused (label l) path question in
    (λ h. r.0 (e.0 h), λ h. e.1 (r.1 h))
struct_table ms given labels table is same g (index i ∷ path) question =
    let e = same (index i ∷ path) question in
    let r = g.refused (index i) path question in
    (λ h. r.0 (e.0 h), λ h. e.1 (r.1 h))

labels_closed : (ms : Members) (labels : Option (List (List ℕ))) → ((l : List ℕ) → RefusesLabel labels l ↔ LeaveOut (ms ∷ []) l)
    → (question : Question) → LabelsRefuse labels question ↔ ClosingRefuses (ms ∷ []) question
labels_closed ms labels h (allows l) = h l
labels_closed ms labels h _ = (λ k. k, λ k. k)

pub close_table : (ms : Members) (given : List (Step × Tree Row)) (labels : Option (List (List ℕ))) (table : Tree Row)
    → ((l : List ℕ) → RefusesLabel labels l ↔ LeaveOut (ms ∷ []) l)
    → SameAnswers (TreeRefusals table) (LiteralAnswers (λ question. StructRefuses question ⊎ LabelsRefuse labels question) given)
    → AreGiven (AtLabels ms) given → HasAnswersOf (close ms) table
close_table ms given labels table closed same g [] question =
    let e = same [] question in
    let c = labels_closed ms labels closed question in (
      λ h. ⊎_elim (λ k. inl k) (λ k. inr (c.0 k)) (e.0 h),
      λ h. e.1 (⊎_elim (λ k. inl k) (λ k. inr (c.1 k)) h),
    )
close_table ms given labels table closed same g (label l ∷ path) question =
    let e = same (label l ∷ path) question in
    let r = g.refused (label l) path question in
    (λ h. inl (r.0 (e.0 h)), λ h. e.1 (r.1 (⊎_elim (λ k. k) (λ k. absurd k) h)))
close_table ms given labels table closed same g (index i ∷ path) question =
    let e = same (index i ∷ path) question in
    let r = g.refused (index i) path question in
    (λ h. absurd (r.0 (e.0 h)), λ h. ⊎_elim (λ k. absurd k) (λ k. absurd k) h)

-- a list of elements, by itself
abbrev pub ElementsAnswer : Cores → Bool → ℕ → Tree Row → Type 0
ElementsAnswer cs goes_on n table = SameAnswers (TreeRefusals table) (ElementsRefuse (ListRefuses n goes_on) (ElementRefuses (alone cs)))

pub elements_table : (cs : Cores) (goes_on : Bool) (given : List (Step × Tree Row)) (table : Tree Row) (n : ℕ) → length given ≡ n
    → SameAnswers (TreeRefusals table) (LiteralAnswers (ListRefuses (length given) goes_on) given)
    → AreGiven (AtIndexes 0 (alone cs)) given → ElementsAnswer cs goes_on n table
elements_table cs goes_on given table n counted same g [] question =
    subst (λ m. TreeRefusals table [] question ↔ ListRefuses m goes_on question) counted (same [] question)
elements_table cs goes_on given table n counted same g (label l ∷ path) question =
    let e = same (label l ∷ path) question in
    let r = g.refused (label l) path question in
    (λ h. r.0 (e.0 h), λ h. absurd h)
elements_table cs goes_on given table n counted same g (index i ∷ path) question =
    let e = same (index i ∷ path) question in
    let r = g.refused (index i) path question in (
      λ h. let at = r.0 (e.0 h) in let is : at.0 ≡ i = let w = at.1 in omega arith in subst (λ k. ElementRefuses (alone cs) k path question) is at.2,
      λ h. let is : 0 + i ≡ i = omega arith in e.1 (r.1 (i, is, h)),
    )

-- and with what each further element is
pub list_answers : (cs : Cores) (rest : Elements) (goes_on : Bool) (n : ℕ) (table all : Tree Row) → n ≡ count_of_elements (alone cs) → is_open_list rest ≡ goes_on → count_of_elements rest ≡ 0
    → ElementsAnswer cs goes_on n table → SameAnswers (TreeRefusals all) (λ path question. TreeRefusals table path question ⊎ FurtherRefuse n rest path question) → HasAnswersOf (list (followed_by cs rest)) all
list_answers cs rest goes_on n table all counted opened none same more [] question =
    let m = more [] question in
    let e = same [] question in
    let number : n ≡ count_of_elements (followed_by cs rest) = let c = count_followed cs rest in omega (arith, c, counted, none) in
    let open_is : goes_on ≡ is_open_list (followed_by cs rest) = sym opened ∙ sym (open_followed cs rest) in
    let kind : ListRefuses n goes_on question ≡ ListRefuses (count_of_elements (followed_by cs rest)) (is_open_list (followed_by cs rest)) question = λ i. ListRefuses (number i) (open_is i) question in (
      λ h. subst (λ t. t) kind (⊎_elim (λ k. e.0 k) (λ k. absurd k) (m.0 h)),
      λ h. m.1 (inl (e.1 (subst (λ t. t) (sym kind) h))),
    )
list_answers cs rest goes_on n table all counted opened none same more (label l ∷ path) question =
    let m = more (label l ∷ path) question in
    let e = same (label l ∷ path) question in
    (λ h. ⊎_elim (λ k. e.0 k) (λ k. k) (m.0 h), λ h. absurd h)
list_answers cs rest goes_on n table all counted opened none same more (index i ∷ path) question =
    let m = more (index i ∷ path) question in
    let e = same (index i ∷ path) question in
    let f = refuses_followed cs rest i path question in (
      λ h. f.1 (⊎_elim (λ k. inl (e.0 k)) (λ k. let w = k.1 in inr (k.0, omega (arith, w, counted), k.2)) (m.0 h)),
      λ h. m.1 (⊎_elim (λ k. inl (e.1 k)) (λ k. let w = k.1 in inr (k.0, omega (arith, w, counted), k.2)) (f.0 h)),
    )

-- ---- the same of what calls return
pub struct_result : {E : Type 0} (r : Result (Tree Row) E) (ms : Members) (given : List (Step × Tree Row)) (labels : Option (List (List ℕ))) → labels ≡ None
    → IfOk r (λ table. SameAnswers (TreeRefusals table) (LiteralAnswers (λ question. StructRefuses question ⊎ LabelsRefuse labels question) given))
    → AreGiven (AtLabels ms) given → IfOk r (HasAnswersOf (struct ms))
struct_result (Ok table) ms given labels is same g = struct_table ms given labels table is same g
struct_result (Err e) ms given labels is same g = same

pub close_result : {E : Type 0} (r : Result (Tree Row) E) (ms : Members) (given : List (Step × Tree Row)) (labels : Option (List (List ℕ)))
    → ((l : List ℕ) → RefusesLabel labels l ↔ LeaveOut (ms ∷ []) l)
    → IfOk r (λ table. SameAnswers (TreeRefusals table) (LiteralAnswers (λ question. StructRefuses question ⊎ LabelsRefuse labels question) given))
    → AreGiven (AtLabels ms) given → IfOk r (HasAnswersOf (close ms))
close_result (Ok table) ms given labels closed same g = close_table ms given labels table closed same g
close_result (Err e) ms given labels closed same g = same
