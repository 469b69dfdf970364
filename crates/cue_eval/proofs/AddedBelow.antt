-- What closing adds below a place: in fields, and in stretches of elements that are alike.
use Rattle.std.proofs.Common.{◌≡◌, ◌↔◌, inl, inr, ⊎_elim, ℕ, ◌≤◌, ◌<◌, List, [], ◌∷◌, ◌++◌, append_assoc, append-nil, sym, ap, subst, ◌∙◌, arith}
use Rattle.std.proofs.lemmas.Bool.{cases_lt}
use Rattle.cue_lattice.specs.Path as paths
use Rattle.cue_lattice.specs.Path.{Path, label, index}
use Rattle.cue_row.specs.Questions.{question_of}
use Rattle.cue_row.specs.Row.{RefusesAsked}
use Rattle.cue_row.specs.declared.question.Question as program
use Rattle.cue_row.specs.declared.parts.RowParts.{RowParts as Row}
use Rattle.cue_row.specs.declared.step.Step.{Step}
use Rattle.cue_table.specs.Many.{IsOfBranches, IsOfElements, element_given}
use Rattle.cue_table.specs.Meet.{IsMet}
use Rattle.cue_table.specs.Refuses.{TableRefuses}
use Rattle.cue_table.specs.Tree.{Tree, empty}
use Rattle.cue_table.proofs.Stretches.{element_before, element_from}
use Rattle.cue_eval.specs.Inner.Adding.{ClosingAddsAt, AreFields, AreStretches, IsAllBelow}
use Rattle.cue_eval.specs.declared.left_out.ClosingPlace.{ClosingPlace}
use Rattle.cue_eval.proofs.LabelTables.{adds_branch}

pub empty_refuses : (path : Path) (question : program.Question) → ¬ TableRefuses RefusesAsked (empty {R = Row}) path question
empty_refuses [] question h = h
empty_refuses (step ∷ path) question h = h

-- the same table refuses the same
as_table : (a b : Tree Row) → a ≡ b → (path : Path) (question : program.Question) (n : Type 0) → (TableRefuses RefusesAsked b path question ↔ n) → TableRefuses RefusesAsked a path question ↔ n
as_table a b e path question n h =
    (λ r. h.0 (subst (λ t. TableRefuses RefusesAsked t path question) e r), λ x. subst (λ t. TableRefuses RefusesAsked t path question) (sym e) (h.1 x))

-- what closing adds in elements is that of this table
abbrev pub AreAlike : ClosingPlace → Tree Row → ℕ → Path → program.Question → Type 0
AreAlike place sets i path question = TableRefuses RefusesAsked sets path question ↔ ClosingAddsAt place (index i ∷ path) (question_of question)

-- the last stretch is given first
pub last_stretch : (place : ClosingPlace) (last : ℕ) (sets : Tree Row) (given : List (ℕ × Tree Row)) → given ≡ (last, sets) ∷ [] → ((i : ℕ) (path : Path) (question : program.Question) → last ≤ i → AreAlike place sets i path question) → AreStretches place last given
last_stretch place last sets given e says = subst (AreStretches place last) (sym e) (record {
  reached = λ i more path question far. as_table (element_given i ((last, sets) ∷ more)) sets (element_from i last sets more far) path question (ClosingAddsAt place (index i ∷ path) (question_of question)) (says i path question far);
  others = λ i more low. element_before i last sets more low;
})

-- and then those before it
pub next_stretch : (place : ClosingPlace) (from first : ℕ) (sets : Tree Row) (old new : List (ℕ × Tree Row)) → new ≡ old ++ (first, sets) ∷ [] → first < from → AreStretches place from old
    → ((i : ℕ) (path : Path) (question : program.Question) → first ≤ i → i < from → AreAlike place sets i path question) → AreStretches place first new
next_stretch place from first sets old new e low are says = record {
  reached = λ i more path question far. as_table (element_given i (new ++ more)) (element_given i (old ++ (first, sets) ∷ more)) (same i more) path question (ClosingAddsAt place (index i ∷ path) (question_of question))
      (elim (cases_lt i from) [
        | inl before ↦ as_table (element_given i (old ++ (first, sets) ∷ more)) sets (are.others i ((first, sets) ∷ more) before ∙ element_from i first sets more far) path question (ClosingAddsAt place (index i ∷ path) (question_of question)) (says i path question far before)
        | inr high ↦ are.reached i ((first, sets) ∷ more) path question high
      ]);
  others = λ i more before. same i more ∙ are.others i ((first, sets) ∷ more) (omega (arith, before, low)) ∙ element_before i first sets more before;
} where
  same : (i : ℕ) (more : List (ℕ × Tree Row)) → element_given i (new ++ more) ≡ element_given i (old ++ (first, sets) ∷ more)
  same i more = ap (λ xs. element_given i (xs ++ more)) e ∙ ap (element_given i) (append_assoc old ((first, sets) ∷ []) more)

-- the fields and all stretches together
pub all_below : (place : ClosingPlace) (fields : List (Step × Tree Row)) (given : List (ℕ × Tree Row)) (branches list all : Tree Row) → AreFields place fields → AreStretches place 0 given → IsOfBranches RefusesAsked fields branches → IsOfElements RefusesAsked given list
    → IsMet RefusesAsked branches list all → IsAllBelow place all
all_below place fields given branches list all are stretches of elements met = record {
  root = λ question h. ⊎_elim (of.root question) (elements.root question) ((met [] question).0 h);
  below = at;
} where
  at : (step : paths.Step) (path : Path) (question : program.Question) → TableRefuses RefusesAsked all (step ∷ path) question ↔ ClosingAddsAt place (step ∷ path) (question_of question)
  at (label text) path question =
      let both = met (label text ∷ path) question in
      let hung = of.below (label text) path question in
      let added = are.2.refused (label text) path question in (
        λ h. ⊎_elim (λ g. (added.0 (hung.0 g)).1) (λ g. absurd (elements.labels text path question g)) (both.0 h),
        λ h. let branch = adds_branch place (label text) path (question_of question) h in both.1 (inl (hung.1 (added.1 (are.1.all text branch.0 branch.1, h)))),
      )
  at (index i) path question =
      let both = met (index i ∷ path) question in
      let hung = of.below (index i) path question in
      let added = are.2.refused (index i) path question in
      let one = elements.elements i path question in
      let here = as_table (element_given i given) (element_given i (given ++ [])) (ap (element_given i) (sym (append-nil given))) path question (ClosingAddsAt place (index i ∷ path) (question_of question)) (stretches.reached i [] path question (omega arith)) in (
        λ h. ⊎_elim (λ g. absurd (are.1.labels i (added.0 (hung.0 g)).0)) (λ g. here.0 (one.0 g)) (both.0 h),
        λ h. both.1 (inr (one.1 (here.1 h))),
      )
