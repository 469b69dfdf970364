use Rattle.std.proofs.Common.{◌≡◌, ◌↔◌, IsTrue, Bool, true, false, not, is_some, List, ℕ, Option, Some, None, refl, sym, ap, subst, ◌∙◌}
use Rattle.std.specs.Option.{is_none, option_map}
use Rattle.std.proofs.lemmas.Bool.{false≢true}
use Rattle.cue_row.specs.LabelSets.{AreLabels, RefusesLabel}
use Rattle.cue_row.specs.LabelLaws.{same_labels}
use Rattle.cue_eval.specs.Inner.Adding.{AllowsAll, root_row}
use Rattle.cue_eval.proofs.left_out.allows_all.Goals as goal

no_label : (l : List ℕ) → ¬ RefusesLabel None l
no_label l h = absurd (false≢true (sym h))

-- all labels may stand where none are listed
none_refused : (labels : Option (List (List ℕ))) → AreLabels labels → IsTrue (is_none labels) ↔ ((l : List ℕ) → ¬ RefusesLabel labels l)
none_refused None are = (λ h. no_label, λ h. cc)
none_refused (Some ls) are = (λ h. absurd (cc), λ h. let is = same_labels (Some ls) None are tt (λ l. (λ g. absurd (h l g), λ g. absurd (no_label l g))) in absurd (cc))

-- labels are listed where what is seen of them is
seen : {A : Type 0} (view : A → List (List ℕ)) (found : Option A) (none : Bool) → is_some found ≡ not none → none ≡ is_none (option_map view found)
seen view None true e = refl
seen view None false e = absurd (cc)
seen view (Some x) true e = absurd (cc)
seen view (Some x) false e = refl

pub returns-in-Some-row : goal.returns-in-Some-row
returns-in-Some-row c =
    let found : root_row c.args.rows.now ≡ Some c.in-Some-row.row.now = ap root_row c.in-Some.is ∙ sym c.row.ensures.row ∙ ap (option_map (λ r. r.now)) c.in-Some-row.is in
    let none = seen _ c.labels.result c.is_none.result c.is_none.ensures ∙ ap is_none c.labels.ensures.list in
    subst (λ o. IsTrue c.is_none.result ↔ AllowsAll o) (sym found) (subst (λ b. IsTrue b ↔ ((l : List ℕ) → ¬ RefusesLabel c.in-Some-row.row.now.labels l)) (sym none) (none_refused c.in-Some-row.row.now.labels c.labels.ensures.ascending))
