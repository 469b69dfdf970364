-- Tables behind chains of labels, each of which is in a struct of its own.
use Rattle.std.proofs.Common.{◌≡◌, ◌↔◌, ◌⊎◌, ◌≤◌, ◌<◌, inl, inr, ⊎_elim, ℕ, List, [], ◌∷◌, All, length, sym, ap, subst, ◌∙◌, length-drop, take, drop, ◌-◌, get_or, arith, Option, None}
use Rattle.std.proofs.lemmas.List.{take_all}
use Rattle.std.proofs.lemmas.List.Elements.{All-push}
use Rattle.cue_lattice.specs.Limits.{step_limit}
use Rattle.cue_lattice.specs.Path as paths
use Rattle.cue_lattice.specs.Path.{Path, label, index}
use Rattle.cue_lattice.specs.Question.{Question, SameAnswers}
use Rattle.cue_row.specs.Row.{RefusesAsked, IsRow}
use Rattle.cue_row.specs.Steps.{step_of}
use Rattle.cue_row.specs.declared.parts.RowParts.{RowParts as Row}
use Rattle.cue_row.specs.declared.step.Step.{Step}
use Rattle.cue_row.specs.declared.step.Step.TheVariants as steps
use Rattle.cue_table.specs.Depth.{tree_depth}
use Rattle.cue_table.specs.Form.{IsTable}
use Rattle.cue_table.specs.Tree.{Tree}
use Rattle.cue_scope.proofs.Walking.{at_hand}
use Rattle.cue_syntax.specs.declared.tree.Label.{Label}
use Rattle.cue_scope.specs.Core.{Core, struct, member, no_members}
use Rattle.cue_scope.specs.Meaning.{nest_in_labels, text_of}
use Rattle.cue_eval.specs.Evaluated.{HasAnswersOf}
use Rattle.cue_eval.specs.Inner.Gathered.{TreeRefusals, GivenRefuse, LabelsRefuse, LiteralAnswers}
use Rattle.cue_eval.specs.Places.{IsAtPlace, MarkRefuses, StructRefuses}
use Rattle.cue_eval.specs.Inner.Ready.{IsField, AreGiven, AtLabels}
use Rattle.cue_eval.proofs.Gathering.{shallow, answer_short}
use Rattle.cue_eval.proofs.LiteralTables.{struct_table}

one_refused : (l : Label) (c : Core) (one : Step × Tree Row) → IsField l c one → (step : paths.Step) (path : Path) (question : Question)
    → GivenRefuse (one ∷ []) step path question ↔ AtLabels (member (text_of l.name) l.mark c no_members) step path question
one_refused l c one f (label k) path question =
    let a = f.answers path question in
    let at = f.step in (
      λ h. ⊎_elim (λ y. let there = y.0 in let same : text_of l.name ≡ k = cc in inl (same, a.0 y.1)) (λ y. absurd y) h,
      λ h. ⊎_elim (λ y. inl (at ∙ ap label y.0, a.1 y.1)) (λ y. absurd y) h,
    )
one_refused l c one f (index i) path question =
    let at = f.step in
    (λ h. ⊎_elim (λ y. let there = y.0 in absurd (cc)) (λ y. absurd y) h, λ h. absurd h)

-- a struct of one field
one_given : (l : Label) (c : Core) (one : Step × Tree Row) → IsField l c one → AreGiven (AtLabels (member (text_of l.name) l.mark c no_members)) (one ∷ [])
one_given l c one f = record {
  refused = λ step path question. one_refused l c one f step path question;
  deep = All-push (λ (o : Step × Tree Row). tree_depth o.1 < step_limit) [] one (λ k d less. absurd (omega arith)) f.deep;
}

-- what stands behind one label more
behind_more : (l : Label) (c : Core) (step : Step) (inner hung_in after : Tree Row) (labels : Option (List (List ℕ))) → step ≡ steps.Label (text_of l.name) → tree_depth hung_in < step_limit
    → SameAnswers (TreeRefusals hung_in) (λ path question. IsAtPlace (MarkRefuses l.mark) path question ⊎ TreeRefusals inner path question) → HasAnswersOf c inner → labels ≡ None
    → SameAnswers (TreeRefusals after) (LiteralAnswers (λ question. StructRefuses question ⊎ LabelsRefuse labels question) ((step, hung_in) ∷ []))
    → HasAnswersOf (struct (member (text_of l.name) l.mark c no_members)) after
behind_more l c step inner hung_in after labels is deep marked same free hung =
    let made : IsField l c (step, hung_in) = record {
      step = ap step_of is;
      deep = deep;
      answers = λ path question.
          let m = marked path question in
          let s = same path question in (
            λ h. ⊎_elim (λ g. inl g) (λ g. inr (s.0 g)) (m.0 h),
            λ h. m.1 (⊎_elim (λ g. inl g) (λ g. inr (s.1 g)) h),
          );
    } in
    struct_table (member (text_of l.name) l.mark c no_members) ((step, hung_in) ∷ []) labels after free hung (one_given l c (step, hung_in) made)

-- the same of a chain that begins with that label
pub behind_first : (after : Tree Row) (chain rest : List Label) (first : Label) (step : Step) (before inner hung_in : Tree Row) (given : List (Step × Tree Row)) (labels : Option (List (List ℕ)))
    → chain ≡ first ∷ rest → step ≡ steps.Label (text_of first.name) → tree_depth hung_in < step_limit
    → SameAnswers (TreeRefusals hung_in) (λ path question. IsAtPlace (MarkRefuses first.mark) path question ⊎ TreeRefusals inner path question)
    → ((c : Core) → HasAnswersOf c before → HasAnswersOf (nest_in_labels rest c) inner) → labels ≡ None → given ≡ (step, hung_in) ∷ []
    → SameAnswers (TreeRefusals after) (LiteralAnswers (λ question. StructRefuses question ⊎ LabelsRefuse labels question) given)
    → (c : Core) → HasAnswersOf c before → HasAnswersOf (nest_in_labels chain c) after
behind_first after chain rest first step before inner hung_in given labels whole is deep marked same free alone hung c known =
    subst (λ ls. HasAnswersOf (nest_in_labels ls c) after) (sym whole) (behind_more first (nest_in_labels rest c) step inner hung_in after labels is deep marked (same c known) free
    (subst (λ (xs : List (Step × Tree Row)). SameAnswers (TreeRefusals after) (LiteralAnswers (λ question. StructRefuses question ⊎ LabelsRefuse labels question) xs)) alone hung))

literal_short : (own : Question → Type 0) (step : Step) (hung_in : Tree Row) (n : ℕ) → tree_depth hung_in < n → (path : Path) (question : Question) → LiteralAnswers own ((step, hung_in) ∷ []) path question → length path ≤ n
literal_short own step hung_in n less [] question h = omega arith
literal_short own step hung_in n less (at ∷ path) question (inl h) = let d = answer_short hung_in path question h.1 in omega arith
literal_short own step hung_in n less (at ∷ path) question (inr h) = absurd h

pub behind_depth : (after : Tree Row) (own : Question → Type 0) (step : Step) (hung_in : Tree Row) (given : List (Step × Tree Row)) (n : ℕ) → given ≡ (step, hung_in) ∷ [] → tree_depth hung_in < n → IsTable RefusesAsked IsRow after
    → SameAnswers (TreeRefusals after) (LiteralAnswers own given) → tree_depth after ≤ n
behind_depth after own step hung_in given n alone less form same = shallow after n form (λ path question h.
    literal_short own step hung_in n less path question (subst (λ (xs : List (Step × Tree Row)). LiteralAnswers own xs path question) alone ((same path question).0 h)))

-- one field alone that can be hung in
pub one_deep : (given : List (Step × Tree Row)) (step : Step) (table : Tree Row) → given ≡ (step, table) ∷ [] → tree_depth table < step_limit → All (λ one. tree_depth one.1 < step_limit) given
one_deep given step table is less =
    subst (λ (xs : List (Step × Tree Row)). All (λ one. tree_depth one.1 < step_limit) xs) (sym is)
    (All-push (λ (o : Step × Tree Row). tree_depth o.1 < step_limit) [] (step, table) (λ k d low. absurd (omega arith)) less)

pub first_rest : (ls : List Label) (l : Label) → 1 ≤ length ls → l ≡ get_or ls 0 l → ls ≡ l ∷ take (length ls - 1) (drop 1 ls)
first_rest ls l h is =
    let all = length-drop 1 ls in
    let whole : take (length ls - 1) (drop 1 ls) ≡ drop 1 ls = take_all (length ls - 1) (drop 1 ls) (omega arith) in
    at_hand ls 0 l (let few = h in omega arith) is ∙ ap (λ xs. l ∷ xs) (sym whole)
