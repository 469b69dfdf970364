use Rattle.std.proofs.Common.{◌≡◌, ◌↔◌, true, ℕ, List, IfSome, refl, subst, sym}
use Rattle.std.proofs.lemmas.Bool.{false≢true}
use Rattle.cue_row.specs.LabelSets.{RefusesLabel}
use Rattle.cue_row.specs.Questions.{question_of}
use Rattle.cue_sets.specs.Texts.{is_text_member}
use Rattle.cue_eval.proofs.LabelTables.{only_added}
use Rattle.cue_eval.proofs.left_out.ClosingPlace.row.Goals as goal

pub returns-in_ok-row_of_labels-in-Some-2 : goal.returns-in_ok-row_of_labels-in-Some-2
returns-in_ok-row_of_labels-in-Some-2 c question =
    let here = c.in-Some.own.now in
    let declared = subst (λ found. IfSome found (λ labels. (here.undeclared.0 ≡ true) × ((l : List ℕ) → RefusesLabel labels l ↔ (is_text_member here.undeclared l ≡ true))))
    c.in-Some-2.is c.in_ok-declared_labels.ensures.some in
    let added = only_added c.args.self.now here c.in-Some-2.labels (sym c.in-Some.ensures.row) c.if-not-own.false (λ h. false≢true (c.if-has_dots.ensures.1 h)) (c.if-not-allows_all.ensures.0 refl)
    declared.0 declared.1 (question_of question) in
    let told = c.in_ok-row_of_labels-in-Some-2.ensures question in
    (λ h. added.0 (told.0 h), λ h. told.1 (added.1 h))
