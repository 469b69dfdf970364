-- What a closed body refuses.
use Rattle.std.proofs.Common.{◌≡◌, ◌↔◌, ◌⊎◌, inl, inr, ⊎_elim, ℕ, true, List, Option, Some, None, refl, sym, subst, ◌∙◌, arith}
use Rattle.std.specs.List.{list_any}
use Rattle.std.proofs.lemmas.Bool.{false≢true}
use Rattle.cue_lattice.specs.Path.{Path}
use Rattle.cue_lattice.specs.Question.{Question, may_be, usual, struct, list, allows, level_at_most, length_at_most, length_at_least}
use Rattle.cue_row.specs.LabelSets.{RefusesLabel}
use Rattle.cue_row.specs.Questions.{question_of, asked_by_question}
use Rattle.cue_row.specs.Row.{RowRefusesQuestion, RefusesAsked}
use Rattle.cue_row.specs.declared.parts.RowParts.{RowParts as Row}
use Rattle.cue_scope.specs.Core.{Core, closed}
use Rattle.cue_table.specs.Meet.{IsMet}
use Rattle.cue_table.specs.Refuses as tables
use Rattle.cue_table.specs.Refuses.{TableRefuses}
use Rattle.cue_table.specs.Tree.{Tree, row_at}
use Rattle.cue_eval.specs.Inner.Adding.{AllowsAll, ClosingAdds, IsAddedBy}
use Rattle.cue_eval.specs.Closing.{LeaveOutOwn}
use Rattle.cue_eval.specs.Evaluated.{HasAnswersOf}
use Rattle.cue_eval.specs.Literals.{literals, has_dots}
use Rattle.cue_eval.specs.Places.{ClosingRefuses}
use Rattle.cue_eval.specs.Refuses as refusing
use Rattle.cue_eval.specs.Telling.{DeclaredRefuses}
use Rattle.cue_eval.specs.Inner.Told.{DeclaresLiterals}
use Rattle.cue_eval.specs.declared.declared.Declared.{Declared}
use Rattle.cue_eval.specs.declared.declared.DeclaredQuestion.{DeclaredQuestion}
use Rattle.cue_eval.specs.declared.declared.DeclaredQuestion.TheVariants.{Stands}
use Rattle.cue_eval.specs.declared.declares.LiteralSelection.TheVariants.{Own, Dotted}
use Rattle.cue_eval.proofs.Adding.{closed_by_own}
use Rattle.cue_eval.proofs.Gathering.{asked}
use Rattle.cue_eval.proofs.Once.{closed_once}
use Rattle.cue_eval.proofs.Own.{own_or_used}
use Rattle.cue_eval.proofs.TellingNames.{dotted_told}
use Rattle.cue_eval.proofs.OwnLabels.{longest_text, longer_unlisted, label_of, label_longer, TellsOwn, told_here, label_declares, without_dots_all_but, undeclared_member}

-- ---- whether labels are left out already
labels_or_all : (labels : Option (List (List ℕ))) → ((l : List ℕ) → ¬ RefusesLabel labels l) ⊎ ((k : List ℕ) × RefusesLabel labels k)
labels_or_all None = inl (λ l h. false≢true (sym h))
labels_or_all (Some texts) = let k = label_of (longest_text texts) in inr (k, longer_unlisted k texts (label_longer (longest_text texts) (longest_text texts) (omega arith)))

some_or_all : (at : Option Row) → AllowsAll at ⊎ ((k : List ℕ) × tables.RowRefuses RowRefusesQuestion at (allows k))
some_or_all None = inl (λ l h. h)
some_or_all (Some row) = labels_or_all row.labels

label_refused : (at : Option Row) (k : List ℕ) → AllowsAll at → ¬ tables.RowRefuses RowRefusesQuestion at (allows k)
label_refused None k all h = h
label_refused (Some row) k all h = all k h

found : {R : Type 0} (refuses : R → DeclaredQuestion → Type 0) (at : Option R) (asked : DeclaredQuestion) → tables.RowRefuses refuses at asked → (here : R) × (at ≡ Some here)
found refuses None asked h = absurd h
found refuses (Some here) asked h = (here, refl)

back : (question : Question) → question_of (asked_by_question question) ≡ question
back (may_be x) = refl
back (usual x) = refl
back struct = refl
back list = refl
back (allows l) = refl
back (level_at_most k) = refl
back (length_at_most n) = refl
back (length_at_least n) = refl

-- ---- what closing adds, and what it owes
module _ (c : Core) (own dots : Tree Declared) (rows : Tree Row) (told : DeclaresLiterals Own c own) (dotted : DeclaresLiterals Dotted c dots) (answers : HasAnswersOf c rows) where
  Added : Path → Question → Type 0
  Added path question = ClosingAdds (row_at own path) (row_at dots path) (row_at rows path) question

  none_refused : (path : Path) → AllowsAll (row_at rows path) → (k : List ℕ) → ¬ refusing.Refuses c path (allows k)
  none_refused path all k h = label_refused (row_at rows path) k all ((answers path (allows k)).1 h)

  -- a literal of the body's own, or in a definition that it names, has no `...`
  no_dots : (path : Path) → ¬ tables.RowRefuses DeclaredRefuses (row_at dots path) Stands → list_any has_dots (literals c path) ≡ true → ⊥
  no_dots path none h = none ((dotted.told path Stands).1 ((dotted_told c path Stands).0 h))

  owed : (path : Path) (here : Declared) → row_at own path ≡ Some here → (question : Question) → ClosingAdds (Some here) (row_at dots path) (row_at rows path) question → ClosingRefuses (literals c path) question
  owed path here at (allows l) added = (closed_by_own c path l (none_refused path added.1)).1 (record {
    some = (tell Stands).0 added.2.0;
    without_dots = λ d. no_dots path added.0 ((own_or_used has_dots c path).1 (inl d));
    used_without_dots = λ d. no_dots path added.0 ((own_or_used has_dots c path).1 (inr d));
    undeclared = λ d. false≢true (sym (label_declares here c path l tell d) ∙ added.2.2);
  }) where
    tell : TellsOwn here c path
    tell = told_here c own path here told at
  owed path here at (may_be x) added = added.2
  owed path here at (usual x) added = added.2
  owed path here at struct added = added.2
  owed path here at list added = added.2
  owed path here at (level_at_most k) added = added.2
  owed path here at (length_at_most n) added = added.2
  owed path here at (length_at_least n) added = added.2

  left_out : (path : Path) (l : List ℕ) → AllowsAll (row_at rows path) → LeaveOutOwn c path l → Added path (allows l)
  unfolding Added
  left_out path l all out =
      let here = found DeclaredRefuses (row_at own path) Stands ((told.told path Stands).1 out.some) in
      let tell = told_here c own path here.0 told here.1 in
      subst (λ (at : Option Declared). ClosingAdds at (row_at dots path) (row_at rows path) (allows l)) (sym here.1) (
        λ s. ⊎_elim out.without_dots out.used_without_dots ((own_or_used has_dots c path).0 ((dotted_told c path Stands).1 ((dotted.told path Stands).0 s))),
        all,
        ((tell Stands).1 out.some, without_dots_all_but here.0 c path tell out.without_dots, undeclared_member here.0 c path l tell out.without_dots out.undeclared),
      )

  added : (path : Path) (question : Question) → ClosingRefuses (literals c path) question → refusing.Refuses c path question ⊎ Added path question
  added path (allows l) out =
      ⊎_elim (λ all. inr (left_out path l all ((closed_by_own c path l (none_refused path all)).0 out)))
      (λ some. inl (closed_once c path some.0 l ((answers path (allows some.0)).0 some.1) out))
      (some_or_all (row_at rows path))
  added path (may_be x) h = absurd h
  added path (usual x) h = absurd h
  added path struct h = absurd h
  added path list h = absurd h
  added path (level_at_most k) h = absurd h
  added path (length_at_most n) h = absurd h
  added path (length_at_least n) h = absurd h

  of_added : (path : Path) (question : Question) → Added path question → ClosingRefuses (literals c path) question
  unfolding Added
  of_added path question h = by (row_at own path) refl h where
    by : (at : Option Declared) → row_at own path ≡ at → ClosingAdds at (row_at dots path) (row_at rows path) question → ClosingRefuses (literals c path) question
    by None e g = absurd g
    by (Some here) e g = owed path here e question g

  pub closed_answers : (sets met : Tree Row) → IsAddedBy own dots rows sets → IsMet RefusesAsked rows sets met → HasAnswersOf (closed c) met
  unfolding Added
  closed_answers sets met by union path question = (to, from) where
    by_sets : TableRefuses RefusesAsked sets path (asked_by_question question) ↔ Added path question
    by_sets = subst (λ q. TableRefuses RefusesAsked sets path (asked_by_question question) ↔ ClosingAdds (row_at own path) (row_at dots path) (row_at rows path) q) (back question) (by path (asked_by_question question))

    to : TableRefuses RowRefusesQuestion met path question → refusing.Refuses c path question ⊎ ClosingRefuses (literals c path) question
    to h =
        ⊎_elim (λ r. inl ((answers path question).0 ((asked rows path question).1 r))) (λ s. inr (of_added path question (by_sets.0 s)))
        ((union path (asked_by_question question)).0 ((asked met path question).0 h))

    from : refusing.Refuses c path question ⊎ ClosingRefuses (literals c path) question → TableRefuses RowRefusesQuestion met path question
    from h =
        let rest : refusing.Refuses c path question ⊎ Added path question = ⊎_elim (λ r. inl r) (λ l. added path question l) h in
        (asked met path question).1 ((union path (asked_by_question question)).1
        (⊎_elim (λ r. inl ((asked rows path question).0 ((answers path question).1 r))) (λ a. inr (by_sets.1 a)) rest))
